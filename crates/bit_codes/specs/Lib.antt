-- 02, C-11: sections of entries of any width in bits.
pub mod Bits
