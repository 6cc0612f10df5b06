-- The two forms of a record: plain (01, "The record") and packed (02, C-11). They differ in these letters, bits and offsets and in nothing else.
use Rattle.std.specs.Prelude.{List, [], ◌∷◌, ℕ, ◌+◌, ◌*◌}
use Rattle.sets.specs.declared.Set.{Set}
use Rattle.sets.specs.Numbers.{list_limit, kappa_of}
use Rattle.bit_codes.specs.Bits.{bytes_for}
use Rattle.record_forms.specs.declared.Form.{Form}
use Rattle.record_forms.specs.declared.Form.TheVariants.{Plain, Packed}

-- BLB1 and BLP1
abbrev pub letters_of : Form → List ℕ
letters_of Plain = 66 ∷ 76 ∷ 66 ∷ 49 ∷ []
letters_of Packed = 66 ∷ 76 ∷ 80 ∷ 49 ∷ []

-- the bits of an entry of z1, of z2 dagger and of the list
abbrev pub z1_bits_of : Form → ℕ
z1_bits_of Plain = 16
z1_bits_of Packed = 13

abbrev pub z2_bits_of : Form → ℕ
z2_bits_of Plain = 8
z2_bits_of Packed = 4

abbrev pub list_bits_of : Form → ℕ
list_bits_of Plain = 16
list_bits_of Packed = 9

-- where the key number starts, the last field of a header (02, C-13)
abbrev pub key_offset : ℕ
key_offset = 20

-- the bytes of a header
abbrev pub header_length : ℕ
header_length = 24

-- where z1 starts
abbrev pub z1_offset : ℕ
z1_offset = header_length

-- where z2 dagger starts
abbrev pub z2_offset_of : Form → ℕ
z2_offset_of Plain = 1048
z2_offset_of Packed = 856

-- where the list starts
abbrev pub list_offset_of : Form → ℕ
list_offset_of Plain = 1560
list_offset_of Packed = 1112

-- the bytes of a record
abbrev pub total_of : Form → Set → ℕ
total_of form s = list_offset_of form + bytes_for (list_bits_of form * kappa_of s)

-- the bytes of the longest one: the largest total
abbrev pub record_limit_of : Form → ℕ
record_limit_of form = list_offset_of form + bytes_for (list_bits_of form * list_limit)
