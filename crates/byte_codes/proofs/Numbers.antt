-- A number's bytes by std's words, and by those of specs/Bytes. Assumes nothing.
use Rattle.std.proofs.Common.{◌≡◌, refl, sym, ap, ap₂, ◌∙◌, List, [], ◌∷◌, ℕ, zero, suc, ◌/◌, ◌%◌, ◌^◌, ◌<◌, length, get_or, arith}
use Rattle.std.proofs.Math.Nat.{div-div-eq-div-mul, pow-suc}
use Rattle.std.specs.Int.{Width, byte_at, byte_len, bytes_low_first, to_le_bytes, from_le_bytes, cast_signed, cast_unsigned, w8, w16, w32}
use lib.IntN.{ℤ}
use lib.Signed.{mag}
use mir.Facts.{Fits-of_z}
use mir.Val.{SFits, bits, hbits, to_z, of_z}
use Rattle.laws.proofs.Machine.{given, element}
use Rattle.byte_codes.specs.Bytes.{bytes_of, number_in, complement, from_complement}
use Rattle.byte_codes.proofs.Complement.{cast_complement, cast_from_complement}
use Rattle.byte_codes.proofs.Four.{four_read}

-- ---- written
byte_is : (i x : ℕ) → byte_at i x ≡ x / 256 ^ i % 256
byte_is zero x = omega arith
byte_is (suc i) x = refl

low_first : (width i x : ℕ) → bytes_low_first i width x ≡ bytes_of width (x / 256 ^ i)
unfolding bytes_of
low_first zero i x = refl
low_first (suc width) i x = ap₂ ◌∷◌ (byte_is i x) (low_first width (suc i) x ∙ ap (bytes_of width) (rw (pow-suc 256 i) (sym (div-div-eq-div-mul x (256 ^ i) 256))))

pub bytes_written : (w : Width) (x : ℕ) → to_le_bytes w x ≡ bytes_of (byte_len w) x
bytes_written w x = low_first (byte_len w) 0 x ∙ ap (bytes_of (byte_len w)) (omega arith)

pub complement_written : {w : Width} {z : ℤ} → SFits w z → to_le_bytes w (cast_unsigned w (to_z w (of_z w z))) ≡ bytes_of (byte_len w) (complement (bits w) z)
complement_written {w} {z} fit = bytes_written w (cast_unsigned w (to_z w (of_z w z))) ∙ ap (bytes_of (byte_len w)) (cast_complement w (to_z w (of_z w z)) ∙ ap (complement (bits w)) (given fit).back)

pub byte_written : {z : ℤ} → SFits w8 z → cast_unsigned w8 (to_z w8 (of_z w8 z)) ∷ [] ≡ bytes_of 1 (complement 8 z)
byte_written {z} fit = ap (λ (n : ℕ). n ∷ []) (small _ (rw (given fit).back (Fits-of_z fit).fits)) ∙ complement_written fit
  where
    small : (n : ℕ) → n < 256 → n ≡ n % 256
    small n h = omega arith

-- ---- read
pub one_read : (l : List ℕ) → length l ≡ 1 → from_le_bytes w8 (get_or l 0 0 ∷ []) ≡ number_in l
unfolding number_in
one_read [] h = absurd (omega arith)
one_read (x ∷ []) h = omega arith
one_read (x ∷ y ∷ l) h = absurd (omega arith)

pub two_read : (l : List ℕ) → length l ≡ 2 → from_le_bytes w16 (get_or l 0 0 ∷ get_or l 1 0 ∷ []) ≡ number_in l
unfolding number_in
two_read [] h = absurd (omega arith)
two_read (x ∷ []) h = absurd (omega arith)
two_read (x ∷ y ∷ []) h = omega arith
two_read (x ∷ y ∷ z ∷ l) h = absurd (omega arith)

pub from_four : (l : List ℕ) → length l ≡ 4 → from_le_bytes w32 (get_or l 0 0 ∷ get_or l 1 0 ∷ get_or l 2 0 ∷ get_or l 3 0 ∷ []) ≡ number_in l
from_four l h = omega (arith, four_read l h)

pub complement_read : (w : Width) (z : ℤ) (x y : ℕ) → mag z < 2 ^ hbits w → z ≡ cast_signed w x → x ≡ y → to_z w (of_z w z) ≡ from_complement (bits w) y
complement_read w z x y fit is by = (element w z fit).back ∙ is ∙ cast_from_complement w x ∙ ap (from_complement (bits w)) by
