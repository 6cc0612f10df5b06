-- A signature is its set, key number, z1, z2 dagger and list (01, "The record"; 02, C-13): its record in either form (02, C-11), and the signature that a record
-- holds.
use Rattle.std.specs.Prelude.{List, ◌++◌, map, ℕ, ℤ, Err}
use Rattle.laws.specs.Refusals.{must}
use Rattle.sets.specs.declared.Set.{Set}
use Rattle.sets.specs.Numbers.{dimension, kappa_of}
use Rattle.answers.specs.Outcomes.{Outcome}
use Rattle.answers.specs.declared.Refusal.TheVariants.{ImproperList}
use Rattle.vectors.specs.Places.{proper_list}
use Rattle.limits.specs.LengthRule.{length_rule}
use Rattle.byte_codes.specs.Bytes.{complement, from_complement}
use Rattle.bit_codes.specs.Bits.{packed_bits, unpacked_bits}
use Rattle.record_forms.specs.declared.Form.{Form}
use Rattle.record_forms.specs.Forms.{z1_bits_of, z2_bits_of, list_bits_of, z1_offset, z2_offset_of, list_offset_of, total_of}
use Rattle.record_forms.specs.Headers.{header_of, key_in, part}

-- key is the key number, 0 for "not stated"; z2 is z2 dagger
pub record Signature : Type 0 where
  pub set : Set
  pub key : ℕ
  pub z1 : List ℤ
  pub z2 : List ℤ
  pub list : List ℕ

abbrev pub signature : Set → ℕ → List ℤ → List ℤ → List ℕ → Signature
signature s key z1 z2 list = record { set = s; key = key; z1 = z1; z2 = z2; list = list }

-- the sections: entries of as many bits as the form has for them, those of z1 and of z2 dagger in two's complement
abbrev pub z1_bytes : Form → Signature → List ℕ
z1_bytes form g = packed_bits (z1_bits_of form) dimension (map (complement (z1_bits_of form)) g.z1)

abbrev pub z2_bytes : Form → Signature → List ℕ
z2_bytes form g = packed_bits (z2_bits_of form) dimension (map (complement (z2_bits_of form)) g.z2)

abbrev pub list_bytes : Form → Signature → List ℕ
list_bytes form g = packed_bits (list_bits_of form) (kappa_of g.set) g.list

unfoldable pub record_of : Form → Signature → List ℕ
record_of form g = header_of form g.set g.key ++ z1_bytes form g ++ z2_bytes form g ++ list_bytes form g

-- the signature in a record whose header states a set
abbrev pub signature_in : Form → Set → List ℕ → Signature
signature_in form s rec =
    signature s (key_in rec)
    (map (from_complement (z1_bits_of form)) (unpacked_bits (z1_bits_of form) dimension (part z1_offset (z2_offset_of form) rec)))
    (map (from_complement (z2_bits_of form)) (unpacked_bits (z2_bits_of form) dimension (part (z2_offset_of form) (list_offset_of form) rec)))
    (unpacked_bits (list_bits_of form) (kappa_of s) (part (list_offset_of form) (total_of form s) rec))

-- what z1, z2 dagger and list of a set are refused for: 5, 10, 11
unfoldable pub refusal_for : Set → List ℤ → List ℤ → List ℕ → Outcome
refusal_for s z1 z2 list = must (proper_list s list) (Err ImproperList) (length_rule s z1 z2)

-- and so a signature, whichever way it came: no key number is refused
abbrev pub refusal_of : Signature → Outcome
refusal_of g = refusal_for g.set g.z1 g.z2 g.list
