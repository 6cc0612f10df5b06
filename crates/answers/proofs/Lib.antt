-- What the calls' proofs cite: `search calls` closes a return. `Slots`: a call's parameters by their names.
pub mod Calls
pub mod Slots
