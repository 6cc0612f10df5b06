-- s2 = 2g + 1: its length, its entries, and how it is made in place. Assumes nothing.
use mathlib.Core.Path.{◌≡◌, refl, ◌∙◌}
use mathlib.Core.Bool.{true}
use mathlib.Core.List.{List, [], ◌∷◌, map}
use Prim.Native.Nat.{ℕ, zero, suc, ◌<◌, ◌≤◌}
use native.Mathlib.Omega.{arith}
use borrow.Author.Tests.{leb-true, le-leb}
use lib.IntN.{ℤ, pos, nat_abs, ◌+ℤ◌, ◌*ℤ◌}
use lib.ListN.{length, get_or, set as update, length-map, get_or-map}
use Rattle.laws.specs.Lists.{every}
use Rattle.laws.proofs.Bounds.{abs_add, abs_mul}
use Rattle.laws.proofs.Entries.{every_anywhere, every_of}
use Rattle.vectors.specs.Vectors.{within}
use Rattle.keys.specs.Key.{plus_one, second}

abbrev pub double : ℤ → ℤ
double x = pos 2 *ℤ x

pub doubled : List ℤ → List ℤ
doubled = map double

pub length_doubled : (g : List ℤ) → length (doubled g) ≡ length g
unfolding doubled
length_doubled g = length-map g double

pub get_or_doubled : (g : List ℤ) (k : ℕ) → get_or (doubled g) k (pos 0) ≡ double (get_or g k (pos 0))
unfolding doubled
get_or_doubled g k = get_or-map double g k (pos 0)

plus_set : (l : List ℤ) → 0 < length l → update l 0 (get_or l 0 (pos 0) +ℤ pos 1) ≡ plus_one l
plus_set [] h = absurd (native.Mathlib.Nat.not-suc-le-zero h)
plus_set (x ∷ l) h = refl

-- the doubled vector with 1 more at place 0
pub second_is : (g : List ℤ) → 0 < length g → update (doubled g) 0 (get_or (doubled g) 0 (pos 0) +ℤ pos 1) ≡ second g
unfolding doubled second
second_is g h = plus_set (map double g) (omega (arith, length-map g double))

length_plus : (l : List ℤ) → length (plus_one l) ≡ length l
length_plus [] = refl
length_plus (x ∷ l) = refl

pub length_second : (g : List ℤ) → length (second g) ≡ length g
unfolding second
length_second g = length_plus (map double g) ∙ length-map g double

-- ---- entries
abs_double : (x : ℤ) → nat_abs x ≤ 2 → nat_abs (double x) ≤ 4
abs_double x h = omega (arith, abs_mul (pos 2) x)

small_plus : (l : List ℤ) → ((k : ℕ) → nat_abs (get_or l k (pos 0)) ≤ 4) → (k : ℕ) → nat_abs (get_or (plus_one l) k (pos 0)) ≤ 5
small_plus [] h k = omega arith
small_plus (x ∷ l) h zero = omega (arith, abs_add x (pos 1), h 0)
small_plus (x ∷ l) h (suc k) = omega (arith, h (suc k))

-- with g in range s2 has entries of at most 5
pub small_second : (g : List ℤ) → every (within 2) g ≡ true → (k : ℕ) → nat_abs (get_or (second g) k (pos 0)) ≤ 5
unfolding second
small_second g e =
    small_plus (map double g)
    (λ k. rw (get_or-map double g k (pos 0)) (abs_double (get_or g k (pos 0)) (leb-true _ _ (every_anywhere (within 2) g k (pos 0) e refl))))

pub second_within : (g : List ℤ) → every (within 2) g ≡ true → every (within 5) (second g) ≡ true
second_within g e = every_of (within 5) (second g) (pos 0) (λ k h. le-leb _ _ (small_second g e k))
