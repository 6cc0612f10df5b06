-- 01, "Parameters".
pub mod Numbers
