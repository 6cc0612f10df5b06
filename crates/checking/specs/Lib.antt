-- 01, "Rebuild" and "Comparison".
pub mod Checking
