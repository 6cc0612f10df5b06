-- What holds across the calls, proved. The statements are in specs/; each theorem has its statement's name.
-- `Passed`: what an answer that is done tells of the tests before it. `Keys`: a key that passes the key test. `Signatures`: a signature that was given out.
-- `Sums`: the sums of signer and checker modulo 2q. `Daggers`: what z2 dagger restores. `Agreement`: demand 3. `Trials`: the numbers of the draw's trials.
-- `Refusals`: demand 1. `Determined`: one result for each call. `Published`, `Greedy`: the algorithms of document 004. `Rests`: the commitment with rests.
-- `Dropped`: how much the dropped digits cost. `Counts`: the counts of a key, and that refusal 7 can't occur. `Defaults`: what 0 stands for on a call, and the old default.
-- `Longer`: sets 5 to 8. `Packed`: the numbers of the packed record. `KeyNumbers`: the key number.
pub mod Passed
pub mod Keys
pub mod Sums
pub mod Daggers
pub mod Signatures
pub mod Agreement
pub mod Trials
pub mod Refusals
pub mod Determined
pub mod Published
pub mod Greedy
pub mod Rests
pub mod Dropped
pub mod Counts
pub mod Defaults
pub mod Longer
pub mod Packed
pub mod KeyNumbers
