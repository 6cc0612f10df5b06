-- 01, "Ring arithmetic".
pub mod Product
pub mod Field
