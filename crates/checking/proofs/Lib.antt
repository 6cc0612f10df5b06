-- What the other crates cite of checking.
pub mod Marks
pub mod Admitted
pub mod Equality
