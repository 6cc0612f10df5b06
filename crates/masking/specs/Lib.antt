-- 01, "Response" and "The draw".
pub mod Masking
