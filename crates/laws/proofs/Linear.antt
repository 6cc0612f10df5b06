-- Linear facts over whole numbers, for `omega`, which reads natural ones: z is above z - under z, of which one is 0, so that an order or an equation of
-- sums of whole numbers is one of sums of naturals. `le_in`, `lt_in` and `eq_in` turn what is known, `le_out`, `lt_out` and `eq_out` the goal, and each
-- sum, difference or multiple in it has its own fact: omega (arith, le_in, lt_out, sum x y, ..). Assumes nothing.
use mathlib.Core.Path.{◌≡◌, refl, ◌∙◌, ap}
use mathlib.Core.Bool.{Bool, true, false, not}
use Prim.Native.Nat.{ℕ, zero, suc, ◌+◌, ◌*◌, ◌-◌, ◌<◌, ◌≤◌}
use native.Mathlib.Omega.{arith}
use lib.Dec.{T, leb, ltb, leb→le, le→leb, ltb→lt, lt→ltb, nltb→le, nleb→lt}
use lib.IntN.{ℤ, pos, negsuc, neg_ℤ, nat_abs, sub_ℕ, ◌+ℤ◌, ◌-ℤ◌, ◌*ℤ◌}
use lib.Signed.{◌≤ℤ◌, ◌<ℤ◌, le_z, lt_z, mag, non_neg}
use Rattle.laws.proofs.Bounds.{cond_ind}

abbrev pub above : ℤ → ℕ
above (pos n) = n
above (negsuc n) = 0

abbrev pub under : ℤ → ℕ
under (pos n) = 0
under (negsuc n) = suc n

-- ---- sums, differences, multiples, sizes
natural_difference : (a b : ℕ) → above (sub_ℕ a b) + b ≡ under (sub_ℕ a b) + a
natural_difference a b =
    cond_ind (ltb a b) (negsuc (b - suc a)) (pos (a - b)) (λ z. above z + b ≡ under z + a) (λ t. low (ltb→lt a b t)) (λ t. high (nltb→le a b t))
  where
    low : a < b → 0 + b ≡ suc (b - suc a) + a
    low h = omega arith

    high : b ≤ a → (a - b) + b ≡ 0 + a
    high h = omega arith

pub sum : (x y : ℤ) → above (x +ℤ y) + (under x + under y) ≡ under (x +ℤ y) + (above x + above y)
sum (pos a) (pos b) = omega arith
sum (pos a) (negsuc b) = omega (arith, natural_difference a (suc b))
sum (negsuc a) (pos b) = omega (arith, natural_difference b (suc a))
sum (negsuc a) (negsuc b) = omega arith

pub opposite : (x : ℤ) → (above (neg_ℤ x) ≡ under x) × (under (neg_ℤ x) ≡ above x)
opposite (pos zero) = (refl, refl)
opposite (pos (suc n)) = (refl, refl)
opposite (negsuc n) = (refl, refl)

pub difference : (x y : ℤ) → above (x -ℤ y) + (under x + above y) ≡ under (x -ℤ y) + (above x + under y)
difference x y = omega (arith, sum x (neg_ℤ y), opposite y)

pub multiple : (n : ℕ) (x : ℤ) → (above (pos n *ℤ x) ≡ n * above x) × (under (pos n *ℤ x) ≡ n * under x)
multiple n (pos m) = (refl, omega arith)
multiple n (negsuc m) = ((opposite (pos (n * suc m))).0 ∙ omega arith, (opposite (pos (n * suc m))).1)

pub size : (x : ℤ) → nat_abs x ≡ above x + under x
size (pos n) = omega arith
size (negsuc n) = omega arith

-- |x| is at most a bound, from x ≤ bound and - bound ≤ x
pub size_le : (x : ℤ) (bound : ℕ) → above x ≤ bound + under x → under x ≤ bound + above x → nat_abs x ≤ bound
size_le (pos n) bound h k = omega arith
size_le (negsuc n) bound h k = omega arith

-- the most that fits a width is one less than the size of its least number
pub above_mag : (z : ℤ) → above z ≤ mag z
above_mag (pos n) = omega arith
above_mag (negsuc n) = omega arith

-- ---- what is known
le_true : (x y : ℤ) → T (le_z x y) → above x + under y ≤ above y + under x
le_true (pos a) (pos b) t = omega (arith, leb→le a b t)
le_true (pos a) (negsuc b) t = absurd t
le_true (negsuc a) (pos b) t = omega arith
le_true (negsuc a) (negsuc b) t = omega (arith, leb→le b a t)

pub le_in : {x y : ℤ} → x ≤ℤ y → above x + under y ≤ above y + under x
le_in {x} {y} h = le_true x y h.le

lt_true : (x y : ℤ) → T (lt_z x y) → above x + under y < above y + under x
lt_true (pos a) (pos b) t = omega (arith, ltb→lt a b t)
lt_true (pos a) (negsuc b) t = absurd t
lt_true (negsuc a) (pos b) t = omega arith
lt_true (negsuc a) (negsuc b) t = omega (arith, ltb→lt b a t)

pub lt_in : {x y : ℤ} → x <ℤ y → above x + under y < above y + under x
lt_in {x} {y} h = lt_true x y h.lt

pub eq_in : {x y : ℤ} → x ≡ y → above x + under y ≡ above y + under x
eq_in {x} {y} e = rw e refl

-- ---- what is to be shown
no_sum : (a b : ℕ) → a + suc b ≤ 0 → ⊥
no_sum a b h = omega arith

true_le : (x y : ℤ) → above x + under y ≤ above y + under x → T (le_z x y)
true_le (pos a) (pos b) h = le→leb a b (omega arith)
true_le (pos a) (negsuc b) h = absurd (no_sum a b h)
true_le (negsuc a) (pos b) h = tt
true_le (negsuc a) (negsuc b) h = le→leb b a (omega arith)

pub le_out : {x y : ℤ} → above x + under y ≤ above y + under x → x ≤ℤ y
le_out {x} {y} h = record { le = true_le x y h }

true_lt : (x y : ℤ) → above x + under y < above y + under x → T (lt_z x y)
true_lt (pos a) (pos b) h = lt→ltb a b (omega arith)
true_lt (pos a) (negsuc b) h = absurd (no_sum a b (omega arith))
true_lt (negsuc a) (pos b) h = tt
true_lt (negsuc a) (negsuc b) h = lt→ltb b a (omega arith)

pub lt_out : {x y : ℤ} → above x + under y < above y + under x → x <ℤ y
lt_out {x} {y} h = record { lt = true_lt x y h }

pub eq_out : (x y : ℤ) → above x + under y ≡ above y + under x → x ≡ y
eq_out (pos a) (pos b) h = ap pos (omega arith)
eq_out (pos a) (negsuc b) h = absurd (no_sum a b (omega arith))
eq_out (negsuc a) (pos b) h = absurd (no_sum b a (omega arith))
eq_out (negsuc a) (negsuc b) h = ap negsuc (omega arith)

-- ---- tests
pub lt_yes : (x y : ℤ) → lt_z x y ≡ true → above x + under y < above y + under x
lt_yes x y e = lt_true x y (rw e tt)

not_le : (x y : ℤ) → T (not (le_z x y)) → T (lt_z y x)
not_le (pos a) (pos b) t = lt→ltb b a (nleb→lt a b t)
not_le (pos a) (negsuc b) t = tt
not_le (negsuc a) (pos b) t = absurd t
not_le (negsuc a) (negsuc b) t = lt→ltb a b (nleb→lt b a t)

not_lt : (x y : ℤ) → T (not (lt_z x y)) → T (le_z y x)
not_lt (pos a) (pos b) t = le→leb b a (nltb→le a b t)
not_lt (pos a) (negsuc b) t = tt
not_lt (negsuc a) (pos b) t = absurd t
not_lt (negsuc a) (negsuc b) t = le→leb a b (nltb→le b a t)

pub lt_no : (x y : ℤ) → lt_z x y ≡ false → above y + under x ≤ above x + under y
lt_no x y e = le_true y x (not_lt x y (rw e tt))

pub le_yes : (x y : ℤ) → le_z x y ≡ true → above x + under y ≤ above y + under x
le_yes x y e = le_true x y (rw e tt)

pub le_no : (x y : ℤ) → le_z x y ≡ false → above y + under x < above x + under y
le_no x y e = lt_true y x (not_le x y (rw e tt))

T_true : (b : Bool) → T b → b ≡ true
T_true true t = refl
T_true false t = absurd t

pub yes_lt : (x y : ℤ) → above x + under y < above y + under x → lt_z x y ≡ true
yes_lt x y h = T_true _ (true_lt x y h)

pub yes_le : (x y : ℤ) → above x + under y ≤ above y + under x → le_z x y ≡ true
yes_le x y h = T_true _ (true_le x y h)

not_T : (b : Bool) → (T b → ⊥) → b ≡ false
not_T true f = absurd (f tt)
not_T false f = refl

pub no_lt : (x y : ℤ) → above y + under x ≤ above x + under y → lt_z x y ≡ false
no_lt x y h = not_T _ (λ t. clash (lt_true x y t) h)
  where
    clash : {a b : ℕ} → a < b → b ≤ a → ⊥
    clash p q = omega arith

pub no_le : (x y : ℤ) → above y + under x < above x + under y → le_z x y ≡ false
no_le x y h = not_T _ (λ t. clash (le_true x y t) h)
  where
    clash : {a b : ℕ} → a ≤ b → b < a → ⊥
    clash p q = omega arith

-- a number that is not negative, for a cast to an unsigned type
pub nonneg : (z : ℤ) → under z ≤ above z → T (non_neg z)
nonneg (pos n) h = tt
nonneg (negsuc n) h = no_sum 0 n (omega arith)
