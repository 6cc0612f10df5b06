-- 01, "The draw".
pub mod Draw
