-- The promise.
pub mod Promise
