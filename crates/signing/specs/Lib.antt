-- 01, "Response".
pub mod Response
pub mod Requests
