-- The writers: refusals 1, 2, 5, 10, 11, 14 (01, "The record", "Numbers that come back"; 02, C-11, C-13).
use Rattle.std.specs.Prelude.{List, ◌++◌, ℕ, leb, ℤ, length, drop, Err}
use Rattle.laws.specs.Refusals.{must}
use Rattle.sets.specs.Numbers.{asked_of}
use Rattle.answers.specs.declared.Refusal.TheVariants.{UnknownSet, WrongLength, OutputShort}
use Rattle.answers.specs.Outcomes.{Done, unless, for_set, Filled, filled}
use Rattle.vectors.specs.Vectors.{sized}
use Rattle.record_forms.specs.declared.Form.{Form}
use Rattle.record_forms.specs.Forms.{total_of}
use Rattle.records.specs.Signatures.{Signature, signature, record_of, refusal_of}

-- the record of a signature at the front of an output that has the room: 14; a longer output keeps its tail
unfoldable pub put_to : Form → Signature → List ℕ → Filled
put_to form g out = must (leb (total_of form g.set) (length out)) (filled (Err OutputShort) out) (filled Done (record_of form g ++ drop (total_of form g.set) out))

-- of a signature that is not refused: 5, 10, 11, then 14
unfoldable pub recorded_to : Form → Signature → List ℕ → Filled
recorded_to form g out = unless (refusal_of g) (λ o. filled o out) (put_to form g out)

unfoldable pub writing_for : Form → Signature → List ℕ → Filled
writing_for form g out =
    must (sized g.z1) (filled (Err WrongLength) out)
    (must (sized g.z2) (filled (Err WrongLength) out)
    (recorded_to form g out))

-- a signature as a writer is offered it: its set by a number
pub record Offered : Type 0 where
  pub set : ℕ
  pub key : ℕ
  pub z1 : List ℤ
  pub z2 : List ℤ
  pub list : List ℕ

abbrev pub offered : ℕ → ℕ → List ℤ → List ℤ → List ℕ → Offered
offered set key z1 z2 list = record { set = set; key = key; z1 = z1; z2 = z2; list = list }

-- for the set that the number stands for: called with 0 the writer writes 4 (02, C-17)
unfoldable pub writing_of : Form → Offered → List ℕ → Filled
writing_of form a out =
    for_set (asked_of a.set) (filled (Err UnknownSet) out)
    (λ s. writing_for form (signature s a.key a.z1 a.z2 a.list) out)
