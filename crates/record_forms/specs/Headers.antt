-- The header of a record, and its test (01, "The record"), for either form (02, C-11), with the key number (02, C-13).
use Rattle.std.specs.Prelude.{Bool, Result, Ok, Err, List, ◌++◌, ℕ, ◌*◌, ◌-◌, ◌^◌, eqb, leb, ltb, length, take, drop, get_or}
use Rattle.laws.specs.Lists.{same}
use Rattle.laws.specs.Refusals.{must}
use Rattle.sets.specs.declared.Set.{Set}
use Rattle.sets.specs.Numbers.{dimension, kappa_of, set_number_of, named_of}
use Rattle.answers.specs.Outcomes.{for_set}
use Rattle.record_forms.specs.declared.Malformed.{Malformed}
use Rattle.byte_codes.specs.Bytes.{bytes_of, number_in}
use Rattle.bit_codes.specs.Bits.{number}
use Rattle.record_forms.specs.declared.Form.{Form}
use Rattle.record_forms.specs.Forms.{letters_of, list_bits_of, key_offset, header_length, z1_offset, z2_offset_of, list_offset_of, total_of}

-- the table, row by row, up to the key number: bytes 0-3; 4, 5; 6-7, 8-9; 10-11, 12-13; 14-15, 16-17; 18-19
unfoldable pub fields_of : Form → Set → List ℕ
fields_of form s =
    letters_of form
    ++ (bytes_of 1 (set_number_of s) ++ bytes_of 1 0)
    ++ (bytes_of 2 dimension ++ bytes_of 2 z1_offset)
    ++ (bytes_of 2 dimension ++ bytes_of 2 (z2_offset_of form))
    ++ (bytes_of 2 (kappa_of s) ++ bytes_of 2 (list_offset_of form))
    ++ bytes_of 2 (total_of form s)

-- "Bytes 20-23 of both record forms become the key number, low byte first" (02, C-13)
unfoldable pub header_of : Form → Set → ℕ → List ℕ
header_of form s key = fields_of form s ++ bytes_of 4 key

-- ---- the test

-- what a record's header says: its set, or the first byte of the first wrong field
abbrev pub Header : Type 0
Header = Result Set Malformed

abbrev pub malformed : ℕ → Header
malformed place = Err (record { place = place })

-- the bytes from one place up to another
abbrev pub part : ℕ → ℕ → List ℕ → List ℕ
part from to bytes = take (to - from) (drop from bytes)

-- the key number that a record's bytes make
abbrev pub key_in : List ℕ → ℕ
key_in rec = number_in (part key_offset header_length rec)

-- whether two byte strings agree from one place up to another
abbrev pub agree : ℕ → ℕ → List ℕ → List ℕ → Bool
agree from to a b = same (part from to a) (part from to b)

-- "each section starts on a byte; spare bits are zero" (02, C-11): the list's section is a number of no more than its own bits
abbrev pub is_spare_clear : Form → Set → List ℕ → Bool
is_spare_clear form s rec = ltb (number 8 (part (list_offset_of form) (total_of form s) rec)) (2 ^ (list_bits_of form * kappa_of s))

-- a spare bit that is set: it stands in the record's last byte. The plain form has none
unfoldable pub spare_bits : Form → Set → List ℕ → Header
spare_bits form s rec = must (is_spare_clear form s rec) (malformed (total_of form s - 1)) (Ok s)

-- the fields whose content goes by the set: the list's count and offset, and the total, which is also the slice's length; then the spare bits. "13 is no longer
-- given for bytes 20-23" (02, C-13): any four bytes are a key number
unfoldable pub set_fields : Form → Set → List ℕ → List ℕ → Header
set_fields form s fields rec =
    must (agree 14 16 rec fields) (malformed 14)
    (must (agree 16 18 rec fields) (malformed 16)
    (must (agree 18 key_offset rec fields) (malformed 18)
    (must (eqb (length rec) (total_of form s)) (malformed 18)
    (spare_bits form s rec))))

-- the fields after the set's, each by itself against those of that set
unfoldable pub fields_after : Form → Set → List ℕ → List ℕ → Header
fields_after form s fields rec =
    must (agree 5 6 rec fields) (malformed 5)
    (must (agree 6 8 rec fields) (malformed 6)
    (must (agree 8 10 rec fields) (malformed 8)
    (must (agree 10 12 rec fields) (malformed 10)
    (must (agree 12 14 rec fields) (malformed 12)
    (set_fields form s fields rec)))))

-- the set that the header of a record of this form states, or the first byte of the first wrong field; shorter than a header, its length
unfoldable pub header_in : Form → List ℕ → Header
header_in form rec =
    must (leb header_length (length rec)) (malformed (length rec))
    (must (agree 0 4 rec (letters_of form)) (malformed 0)
    (for_set (named_of (get_or rec 4 0)) (malformed 4)
    (λ s. fields_after form s (fields_of form s) rec)))

-- what follows a header that is malformed at a place, and one that states a set
abbrev pub opened {ℓ} : {A : Type ℓ} → Header → (ℕ → A) → (Set → A) → A
opened (Err m) refusal next = refusal m.place
opened (Ok s) refusal next = next s
