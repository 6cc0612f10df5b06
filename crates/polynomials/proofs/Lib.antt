-- The laws of the product. `Operations`: sums and differences, as linear operations; `Rows`: products made row by row, over any numbers;
-- `Shift`: x^i times a vector; `Times`: the product over whole numbers; `One`: the product with 1; `Residues`: the product modulo q, over residues alone; `Carries`: what a key takes to what.
pub mod Operations
pub mod Rows
pub mod Shift
pub mod Times
pub mod One
pub mod Residues
pub mod Carries
