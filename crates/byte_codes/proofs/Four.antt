-- Numbers of four bytes. Assumes nothing.
use mathlib.Core.Path.{◌≡◌}
use mathlib.Core.List.{List, [], ◌∷◌}
use Prim.Native.Nat.{ℕ, ◌+◌, ◌*◌}
use native.Mathlib.Omega.{arith}
use lib.ListN.{length, get_or}
use Rattle.byte_codes.specs.Bytes.{number_in}

-- the number by its halves
pub four_read : (l : List ℕ) → length l ≡ 4 → (get_or l 0 0 + 256 * get_or l 1 0) + 65536 * (get_or l 2 0 + 256 * get_or l 3 0) ≡ number_in l
unfolding number_in
four_read [] e = absurd (omega arith)
four_read (w ∷ []) e = absurd (omega arith)
four_read (w ∷ x ∷ []) e = absurd (omega arith)
four_read (w ∷ x ∷ y ∷ []) e = absurd (omega arith)
four_read (w ∷ x ∷ y ∷ z ∷ []) e = omega arith
four_read (w ∷ x ∷ y ∷ z ∷ v ∷ l) e = absurd (omega arith)
