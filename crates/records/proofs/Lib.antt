-- Laws of the records: what the calls ask and leave (`Buffers`), the record of a signature piece by piece (`Forms`, `Bits`), there and back (`Back`); a lent
-- record is bytes (`Owned`).
-- The promises: `RoundTrip`, `Conversions`, `Determined`; over the reader's own contract and the conversion's they are in read/Answers/Lent.antt and in
-- convert/Answers/Lent.antt, since only the files there can name a call's entry.
pub mod Buffers
pub mod Forms
pub mod Bits
pub mod Back
pub mod RoundTrip
pub mod Conversions
pub mod Owned
pub mod Determined
