-- The readers: refusals 2, 13, 5, 10, 11 (01, "The record", "Numbers that come back"; 02, C-11, C-13).
use Rattle.std.specs.Prelude.{List, ◌++◌, ℕ, eqb, ℤ, length, drop, Result, Ok, Err}
use Rattle.laws.specs.Refusals.{must}
use Rattle.sets.specs.declared.Set.{Set}
use Rattle.sets.specs.Numbers.{list_limit, kappa_of, set_number_of}
use Rattle.answers.specs.Outcomes.{Outcome, Done, unless}
use Rattle.answers.specs.declared.Refusal.{Refusal}
use Rattle.answers.specs.declared.Refusal.TheVariants.{WrongLength, HeaderMalformed}
use Rattle.vectors.specs.Vectors.{sized}
use Rattle.record_forms.specs.declared.Form.{Form}
use Rattle.record_forms.specs.Headers.{header_in, opened}
use Rattle.records.specs.declared.Reading.{Reading}
use Rattle.records.specs.Signatures.{signature_in, refusal_of}

-- the buffers of z1, z2 dagger and the list
pub record Buffers : Type 0 where
  pub z1 : List ℤ
  pub z2 : List ℤ
  pub list : List ℕ

abbrev pub buffers : List ℤ → List ℤ → List ℕ → Buffers
buffers z1 z2 list = record { z1 = z1; z2 = z2; list = list }

-- what a reader leaves behind: its answer, the set, the key number, and the buffers
pub data Found : Type 0 where
  found : Outcome → ℕ → ℕ → Buffers → Found

-- what a reader answers by its number and place, the set's number, and the key number: both 0 with a refusal
abbrev pub outcome_of : Result Reading Refusal → Outcome
outcome_of (Ok reading) = Done
outcome_of (Err refusal) = Err refusal

abbrev pub set_told : Result Reading Refusal → ℕ
set_told (Ok reading) = set_number_of reading.set
set_told (Err refusal) = 0

abbrev pub key_told : Result Reading Refusal → ℕ
key_told (Ok reading) = reading.key
key_told (Err refusal) = 0

-- a refusal: set and key number are 0, and the buffers as they came
abbrev pub keeping : Buffers → Outcome → Found
keeping b o = found o 0 0 b

-- the list's entries after kappa keep their old contents
unfoldable pub reading_for : Form → Set → List ℕ → Buffers → Found
reading_for form s rec b =
    unless (refusal_of (signature_in form s rec)) (keeping b)
    (found Done (set_number_of s) (signature_in form s rec).key
    (buffers (signature_in form s rec).z1 (signature_in form s rec).z2 ((signature_in form s rec).list ++ drop (kappa_of s) b.list)))

-- the lengths of the buffers, then the header
unfoldable pub reading_of : Form → List ℕ → Buffers → Found
reading_of form rec b =
    must (sized b.z1) (keeping b (Err WrongLength))
    (must (sized b.z2) (keeping b (Err WrongLength))
    (must (eqb (length b.list) list_limit) (keeping b (Err WrongLength))
    (opened (header_in form rec) (λ place. keeping b (Err (HeaderMalformed place)))
    (λ s. reading_for form s rec b))))
