-- What the proofs of vectors cite, here and in the layers above: `Tests` for what tests of lengths answer, `Sums` and `Combine` for loops, `Ranges` for
-- entries within a bound, `Lengths` for what squared lengths bound and what keeps them, `Greedy` for a step of the sign choices, `Rising` for lists.
pub mod Tests
pub mod Sums
pub mod Combine
pub mod Ranges
pub mod Lengths
pub mod Greedy
pub mod Rising
