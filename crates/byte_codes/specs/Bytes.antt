-- Numbers as bytes (01, "The record"): all multi-byte numbers have the low byte first; whole numbers are in two's complement.
use Rattle.std.specs.Prelude.{Bool, cond, List, [], ◌∷◌, ◌++◌, ℕ, zero, suc, ◌+◌, ◌*◌, ◌-◌, ◌/◌, ◌%◌, ◌^◌, ltb, ℤ, pos, negsuc, take, drop}

abbrev pub is_byte : ℕ → Bool
is_byte b = ltb b 256

-- a number in `width` bytes
unfoldable pub bytes_of : ℕ → ℕ → List ℕ
bytes_of zero x = []
bytes_of (suc width) x = x % 256 ∷ bytes_of width (x / 256)

-- the number that bytes make
unfoldable pub number_in : List ℕ → ℕ
number_in [] = 0
number_in (b ∷ bytes) = b + 256 * number_in bytes

-- a section: one entry after the other, each in `width` bytes
unfoldable pub packed : ℕ → List ℕ → List ℕ
packed width [] = []
packed width (x ∷ entries) = bytes_of width x ++ packed width entries

-- the first `count` entries of a section
unfoldable pub unpacked : ℕ → ℕ → List ℕ → List ℕ
unpacked width zero bytes = []
unpacked width (suc count) bytes = number_in (take width bytes) ∷ unpacked width count (drop width bytes)

-- two's complement in `bits` binary digits
unfoldable pub complement : ℕ → ℤ → ℕ
complement bits (pos n) = n
complement bits (negsuc n) = 2 ^ bits - suc n

-- the whole number that has this two's complement: from half the range on it is negative
unfoldable pub from_complement : ℕ → ℕ → ℤ
from_complement bits x = cond (ltb (2 * x) (2 ^ bits)) (pos x) (negsuc (2 ^ bits - suc x))
