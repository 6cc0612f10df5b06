-- Laws of digits of any width (`Digits`), of entries of whole bytes (`WholeBytes`), that bits go low first (`LowFirst`), what the code asks that takes bits out of
-- three digits (`Fields`), the loops over a section (`Passes`), whole numbers (`Signs`), examples that are computed (`Examples`).
pub mod Digits
pub mod WholeBytes
pub mod LowFirst
pub mod Fields
pub mod Passes
pub mod Signs
pub mod Examples
