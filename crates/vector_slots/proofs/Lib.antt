-- What `array::from_fn` and `as_chunks` give (`Made`).
pub mod Made
