-- 01, "The record": numbers as bytes.
pub mod Bytes
