-- 01, "Numbers that come back", "Parameters" and "The record".
pub mod Outcomes
pub mod Sizes
