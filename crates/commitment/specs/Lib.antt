-- 01, "Commitment", and 02, C-20.
pub mod Commitment
