-- 01, "Length rule".
pub mod LengthRule
