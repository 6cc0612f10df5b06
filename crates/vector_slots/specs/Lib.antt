-- The slots as clauses name them.
pub mod Slots
