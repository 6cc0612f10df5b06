-- What the other crates cite of the sets.
pub mod Alike
