-- What the proofs of every layer cite. Whole numbers: `Products`, `Sums`, `Solver`, `Bounds`, `Linear`, `Congruence`, `Machine`;
-- vectors: `Entries`, `Pointwise`, `Loops`; refusals in their order: `Chain`.
pub mod Products
pub mod Sums
pub mod Solver
pub mod Bounds
pub mod Linear
pub mod Congruence
pub mod Machine
pub mod Chain
pub mod Entries
pub mod Pointwise
pub mod Loops
