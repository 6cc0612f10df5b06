-- What the other crates cite of rounding.
pub mod Digits
pub mod Laws
pub mod Table
