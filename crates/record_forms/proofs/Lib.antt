-- Laws of the record's form: the numbers of both (`Forms`), byte strings that agree (`Agreement`), what a header states (`Stated`), a buffer written
-- piece after piece (`Pieces`), the key number there and back (`KeyNumbers`), and the ways on through a call (`Ways`).
-- Determinism of the section calls: `Determined`.
pub mod Forms
pub mod Agreement
pub mod Ways
pub mod Stated
pub mod Pieces
pub mod KeyNumbers
pub mod Determined
