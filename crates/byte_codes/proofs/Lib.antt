-- Laws of numbers as bytes: whole numbers in two's complement (`Complement`), lengths and entries of sections (`Sections`), the loops
-- over a section (`Packing`), numbers of four bytes (`Four`).
pub mod Complement
pub mod Sections
pub mod Packing
pub mod Four
pub mod Numbers
