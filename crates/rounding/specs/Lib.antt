-- 01, "Ring arithmetic", and 02, C-20: rounding.
pub mod Rounding
pub mod Laws
