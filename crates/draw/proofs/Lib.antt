-- The laws of the draw: what its own proofs cite, `Trials`, `Rounds` and `Steps`, and what its callers do, `Walks`.
pub mod Trials
pub mod Rounds
pub mod Steps
pub mod Walks
