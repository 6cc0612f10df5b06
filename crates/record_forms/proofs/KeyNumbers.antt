-- The key number of a header, there and back (02, C-13). Assumes nothing.
use mathlib.Core.Path.{◌≡◌, sym, ap, ap₂, ◌∙◌}
use mathlib.Core.List.{List, ◌++◌, append_assoc}
use Prim.Native.Nat.{ℕ, ◌+◌, ◌*◌, ◌^◌, ◌<◌, ◌≤◌}
use native.Mathlib.Omega.{arith}
use lib.Dec.{lit≤}
use lib.ListN.{length, take, drop, get_or, length-append, length-drop}
use lib.Seq.{take_at, drop_at, get_or-drop, length-take-le}
use Rattle.sets.specs.declared.Set.{Set}
use Rattle.byte_codes.specs.Bytes.{bytes_of, number_in}
use Rattle.byte_codes.proofs.Sections.{length_bytes, take_small}
use Rattle.bit_codes.specs.Bits.{digits}
use Rattle.bit_codes.proofs.Digits.{number_8, digits_8, number_below, number_digits, digits_number}
use Rattle.record_forms.specs.declared.Form.{Form}
use Rattle.record_forms.specs.Forms.{key_offset, header_length}
use Rattle.record_forms.specs.Headers.{fields_of, header_of, key_in, part}
use Rattle.record_forms.proofs.Forms.{z2_after, list_after}
use Rattle.record_forms.proofs.Agreement.{take_further}
use Rattle.record_forms.proofs.Stated.{Stated, fields_long}

-- ---- numbers of so many bytes, there and back
pub number_of_bytes : (width x : ℕ) → x < 2 ^ (8 * width) → number_in (bytes_of width x) ≡ x
number_of_bytes width x h = ap number_in (sym (digits_8 width x)) ∙ sym (number_8 (digits 8 width x)) ∙ number_digits 8 width x h

pub bytes_of_number : (bytes : List ℕ) → ((k : ℕ) → get_or bytes k 0 < 256) → bytes_of (length bytes) (number_in bytes) ≡ bytes
bytes_of_number bytes small =
    sym (digits_8 (length bytes) (number_in bytes)) ∙ ap (digits 8 (length bytes)) (sym (number_8 bytes)) ∙ digits_number 8 bytes small

-- ---- the header
pub header_long : (form : Form) (s : Set) (key : ℕ) → length (header_of form s key) ≡ header_length
unfolding header_of
header_long form s key = length-append (fields_of form s) (bytes_of 4 key) ∙ ap₂ ◌+◌ (fields_long form s) (length_bytes 4 key)

pub header_opens : (form : Form) (s : Set) (key : ℕ) (rest : List ℕ) → take key_offset (header_of form s key ++ rest) ≡ fields_of form s
unfolding header_of
header_opens form s key rest = ap (take key_offset) (append_assoc (fields_of form s) (bytes_of 4 key) rest) ∙ take_at (fields_of form s) (bytes_of 4 key ++ rest) key_offset (fields_long form s)

-- the number in a record that opens with a header
pub key_back : (form : Form) (s : Set) (key : ℕ) (rest : List ℕ) → key < 2 ^ 32 → key_in (header_of form s key ++ rest) ≡ key
unfolding header_of
key_back form s key rest small =
    ap (λ (l : List ℕ). number_in (take 4 (drop key_offset l))) (append_assoc (fields_of form s) (bytes_of 4 key) rest)
    ∙ ap (λ (l : List ℕ). number_in (take 4 l)) (drop_at (fields_of form s) (bytes_of 4 key ++ rest) key_offset (fields_long form s))
    ∙ ap number_in (take_at (bytes_of 4 key) rest 4 (length_bytes 4 key))
    ∙ number_of_bytes 4 key small

-- its bytes
module _ (rec : List ℕ) where
  pub key_long : header_length ≤ length rec → length (part key_offset header_length rec) ≡ 4
  key_long long = length-take-le 4 (drop key_offset rec) (omega (arith, length-drop key_offset rec))

  key_bytes : ((k : ℕ) → get_or rec k 0 < 256) → (k : ℕ) → get_or (part key_offset header_length rec) k 0 < 256
  key_bytes small = take_small 4 (drop key_offset rec) (λ k. rw (get_or-drop key_offset rec k 0) (small (key_offset + k)))

-- a record of bytes that opens with a set's fields opens with the header of its own key number
pub header_again : (form : Form) (s : Set) (rec : List ℕ) → ((k : ℕ) → get_or rec k 0 < 256) → header_length ≤ length rec → take key_offset rec ≡ fields_of form s
    → take header_length rec ≡ header_of form s (key_in rec)
unfolding header_of
header_again form s rec small long front =
    take_further key_offset header_length rec (lit≤ tt)
    ∙ ap₂ ◌++◌ front (sym (bytes_of_number (part key_offset header_length rec) (key_bytes rec small)) ∙ ap (λ (n : ℕ). bytes_of n (key_in rec)) (key_long rec long))

-- a record of bytes has a key number of four bytes
pub stated_key : {form : Form} {s : Set} {rec : List ℕ} → Stated form s rec → ((k : ℕ) → get_or rec k 0 < 256) → key_in rec < 2 ^ 32
stated_key {form} {s} {rec} so small =
    let four = key_long rec (omega (arith, so.total, z2_after form, list_after form)) in
    let below = number_below 8 (part key_offset header_length rec) (key_bytes rec small) in
    rw (number_8 (part key_offset header_length rec), four) at below
