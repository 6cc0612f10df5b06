-- Sections of entries of any width in bits (C-11): bits go low first, a section starts on a byte, spare bits are zero. So a section is one number,
-- whose digits to the base 2 ^ width are the entries and whose digits to the base 2 ^ 8 are the bytes, each time the lowest first.
use Rattle.std.specs.Prelude.{List, [], ◌∷◌, ◌++◌, ℕ, zero, suc, ◌+◌, ◌*◌, ◌/◌, ◌%◌, ◌^◌}

-- the number that has these digits of `width` bits
unfoldable pub number : ℕ → List ℕ → ℕ
number width [] = 0
number width (x ∷ xs) = x + 2 ^ width * number width xs

-- the first `count` digits of `width` bits of a number
unfoldable pub digits : ℕ → ℕ → ℕ → List ℕ
digits width zero x = []
digits width (suc count) x = x % 2 ^ width ∷ digits width count (x / 2 ^ width)

-- entries of `from` bits as `count` entries of `to` bits: the same bits
unfoldable pub recoded : ℕ → ℕ → ℕ → List ℕ → List ℕ
recoded from to count xs = digits to count (number from xs)

-- the bytes that hold so many bits
abbrev pub bytes_for : ℕ → ℕ
bytes_for bits = (bits + 7) / 8

-- a section of `count` entries of `width` bits, and the entries of such a section
abbrev pub packed_bits : ℕ → ℕ → List ℕ → List ℕ
packed_bits width count entries = recoded width 8 (bytes_for (width * count)) entries

abbrev pub unpacked_bits : ℕ → ℕ → List ℕ → List ℕ
unpacked_bits width count bytes = recoded 8 width count bytes

-- what stands in a record's bytes from bit `at` on: `width` bits; `count` entries of `width` bits
abbrev pub bits_from : ℕ → ℕ → List ℕ → ℕ
bits_from at width bytes = number 8 bytes / 2 ^ at % 2 ^ width

abbrev pub entries_from : ℕ → ℕ → ℕ → List ℕ → List ℕ
entries_from at width count bytes = digits width count (number 8 bytes / 2 ^ at)

-- the bits of entries, one entry after the other, each from its lowest bit on
unfoldable pub bits_of : ℕ → List ℕ → List ℕ
bits_of width [] = []
bits_of width (x ∷ xs) = digits 1 width x ++ bits_of width xs
