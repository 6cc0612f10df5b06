-- The section calls, of the plain form: refusal 13 only (01, "The record").
use Rattle.std.specs.Prelude.{List, ℕ, ◌+◌, length, Err}
use Rattle.answers.specs.Outcomes.{Outcome, Done, number_of, place_of}
use Rattle.answers.specs.declared.Refusal.TheVariants.{HeaderMalformed}
use Rattle.record_forms.specs.declared.Form.TheVariants.{Plain}
use Rattle.record_forms.specs.Forms.{z1_offset, z2_offset_of, list_offset_of}
use Rattle.record_forms.specs.Headers.{part, header_in, opened}

-- what a section call leaves behind: where the part lies, as block and offset, its bytes, and the number and the place in the lent numbers
pub data Fetched : Type 0 where
  fetched : ℕ × ℕ → List ℕ → ℕ → ℕ → Fetched

-- the part from one place up to another of a record that lies at p
abbrev pub part_of : ℕ → ℕ → ℕ × ℕ → List ℕ → Outcome → Fetched
part_of from to p rec o = fetched (p.0, from + p.1) (part from to rec) (number_of o) (place_of o)

-- with 13 the empty part at its start
unfoldable pub section_of : ℕ → ℕ → ℕ × ℕ → List ℕ → Fetched
section_of from to p rec =
    opened (header_in Plain rec) (λ place. part_of 0 0 p rec (Err (HeaderMalformed place)))
    (λ s. part_of from to p rec Done)

abbrev pub z1_section : ℕ × ℕ → List ℕ → Fetched
z1_section = section_of z1_offset (z2_offset_of Plain)

abbrev pub z2_section : ℕ × ℕ → List ℕ → Fetched
z2_section = section_of (z2_offset_of Plain) (list_offset_of Plain)

-- up to the total, which is the record's length
abbrev pub list_section : ℕ × ℕ → List ℕ → Fetched
list_section p rec = section_of (list_offset_of Plain) (length rec) p rec
