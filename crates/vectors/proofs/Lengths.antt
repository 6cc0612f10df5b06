-- What a squared length bounds, and what keeps it. Assumes nothing.
use mathlib.Core.Path.{◌≡◌, refl, sym, ◌∙◌, ap}
use mathlib.Core.List.{List, [], ◌∷◌, ◌++◌, map}
use Prim.Native.Nat.{ℕ, zero, suc, ◌+◌, ◌*◌, ◌≤◌}
use native.Mathlib.Nat.{mul-le-mul, mul-add}
use native.Mathlib.Omega.{arith}
use lib.IntN.{ℤ, pos, neg_ℤ, nat_abs}
use lib.ListN.{take, drop, get_or, take-append-drop}
use Rattle.laws.proofs.Bounds.{abs_neg, le_square, root_le}
use Rattle.vectors.specs.Vectors.{squares, sizes}

-- ---- sizes
-- |b| is at most its square
pub sizes_le_times : (bound : ℕ) (x y : List ℤ) → ((k : ℕ) → nat_abs (get_or x k (pos 0)) ≤ bound) → sizes x y ≤ bound * squares y
unfolding sizes squares
sizes_le_times bound [] y h = omega arith
sizes_le_times bound (a ∷ x) [] h = omega arith
sizes_le_times bound (a ∷ x) (b ∷ y) h =
    omega (arith, mul-le-mul (h 0) (le_square (nat_abs b)), sizes_le_times bound x y (λ k. h (suc k)), mul-add bound (nat_abs b * nat_abs b) (squares y))

-- ---- entries
square_le : (x : List ℤ) (k : ℕ) → nat_abs (get_or x k (pos 0)) * nat_abs (get_or x k (pos 0)) ≤ squares x
unfolding squares
square_le [] k = omega arith
square_le (a ∷ x) zero = omega arith
square_le (a ∷ x) (suc k) = omega (arith, square_le x k)

pub entry_le : (bound : ℕ) (x : List ℤ) → squares x ≤ bound * bound → (k : ℕ) → nat_abs (get_or x k (pos 0)) ≤ bound
entry_le bound x h k = root_le _ bound (omega (arith, square_le x k))

-- ---- what keeps it
pub squares_append : (x y : List ℤ) → squares (x ++ y) ≡ squares x + squares y
unfolding squares
squares_append [] y = omega arith
squares_append (a ∷ x) y = omega (arith, squares_append x y)

pub squares_negative : (x : List ℤ) → squares (map neg_ℤ x) ≡ squares x
unfolding squares
squares_negative [] = refl
squares_negative (a ∷ x) = rw (abs_neg a) (ap (λ (n : ℕ). nat_abs a * nat_abs a + n) (squares_negative x))

pub squares_split : (i : ℕ) (x : List ℤ) → squares (take i x) + squares (drop i x) ≡ squares x
squares_split i x = sym (squares_append (take i x) (drop i x)) ∙ ap squares (take-append-drop i x)

-- a column x^i s has the squared length of s
pub squares_turned : (i : ℕ) (s : List ℤ) → squares (map neg_ℤ (drop i s) ++ take i s) ≡ squares s
squares_turned i s = omega (arith, squares_append (map neg_ℤ (drop i s)) (take i s), squares_negative (drop i s), squares_split i s)
