-- What the response's proofs cite: `Ways` before the draw, `Given` after it. `Numbered`: the key number.
pub mod Ways
pub mod Given
pub mod Numbered
