-- What holds of the sign choices, for the calls and the promises.
-- `Pairs`: lengths, entries and inner products of pairs of vectors.
-- `Bound`: v1 and v2 have 512 entries, and |v|² is at most the key's for each place.
-- `Quarters`: an inner product made in 128 sums, a quarter of the entries at a time.
-- `Chunks`: those quarters as they come one after the other.
-- `Walk`: the loop over the places.
-- `Sums`: v1 and v2 as signed sums of columns, and what bounds their entries.
-- `Product`: v = S c', and a v1 = v2 modulo q.
-- `Places`: c' is 1 or -1 at the listed places and 0 elsewhere.
-- `Parity`: v2 is odd at the listed places and even elsewhere.
pub mod Pairs
pub mod Bound
pub mod Chunks
pub mod Quarters
pub mod Walk
pub mod Sums
pub mod Product
pub mod Places
pub mod Parity
