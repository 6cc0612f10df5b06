-- Demand 3, to be run, and its promise.
pub mod Accepted
