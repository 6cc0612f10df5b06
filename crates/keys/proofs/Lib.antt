-- What the other crates cite of keys.
pub mod Second
pub mod Ranges
pub mod Counts
