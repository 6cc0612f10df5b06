-- What holds across the calls. `Demands`: the statements of demands 1 and 3. `Published`: the algorithms of document 004 beside the definitions (demand 2).
-- `Rests`: the two commitments, and what a rest tells (02, C-20). `Dropped`: how much the dropped digits cost (02, C-24). `Counts`: the
-- counts of a key, and that refusal 7 can't occur (02, C-12). `Defaults`: what 0 stands for on a call, and the old default (02, C-17). `Longer`: sets 5 to 8 (02, C-22).
-- `Packed`: the numbers of the packed record (02, C-11). `KeyNumbers`: the key number (02, C-13).
pub mod Demands
pub mod Published
pub mod Rests
pub mod Dropped
pub mod Counts
pub mod Defaults
pub mod Longer
pub mod Packed
pub mod KeyNumbers
