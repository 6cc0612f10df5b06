-- 01, "The record", and 02, C-11 and C-13: a signature and its record, and what the writers, the readers and the conversions leave behind.
pub mod Signatures
pub mod Writer
pub mod Reader
pub mod Conversion
