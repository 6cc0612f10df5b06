-- 01, "Key, commitment, response, rebuild": what is said there of vectors and of lists.
pub mod Vectors
pub mod Pairs
pub mod Places
