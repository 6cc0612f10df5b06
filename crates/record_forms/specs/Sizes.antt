-- What the number of a set says of its records, for a caller that holds no table of the sets (01, "The record"; 02, C-11).
use Rattle.std.specs.Prelude.{ℕ}
use Rattle.sets.specs.Numbers.{asked_of}
use Rattle.answers.specs.Outcomes.{for_set}
use Rattle.record_forms.specs.declared.Form.{Form}
use Rattle.record_forms.specs.Forms.{total_of}

-- the bytes of a record of the set that a number stands for on a call, 0 where it stands for none
abbrev pub record_bytes_asked : Form → ℕ → ℕ
record_bytes_asked form x = for_set (asked_of x) 0 (total_of form)
