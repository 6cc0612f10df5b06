-- What the other crates cite of the commitment.
pub mod Sums
pub mod Tests
