-- Bounds on whole numbers by `nat_abs`, a ℕ, which `omega` reads. Assumes nothing.
use mathlib.Core.Path.{◌≡◌, refl}
use mathlib.Core.Bool.{Bool, true, false, not, cond}
use Prim.Native.Nat.{ℕ, zero, suc, ◌+◌, ◌*◌, ◌-◌, ◌<◌, ◌≤◌}
use native.Mathlib.Nat.{mul-le-mul}
use native.Mathlib.Decide.{dec_le}
use native.Mathlib.Omega.{arith}
use lib.Dec.{T, ltb, ltb→lt}
use lib.IntN.{ℤ, pos, negsuc, neg_ℤ, nat_abs, sub_ℕ, ◌+ℤ◌, ◌-ℤ◌, ◌*ℤ◌}
use lib.Signed.{mag, non_neg}

-- a choice has a property where each way has it
pub cond_ind {ℓ} : {A : Type ℓ} (c : Bool) (x y : A) (P : A → Type 0) → (T c → P x) → (T (not c) → P y) → P (cond c x y)
cond_ind true x y P f g = f tt
cond_ind false x y P f g = g tt

abs_difference : (a b : ℕ) → nat_abs (sub_ℕ a b) ≤ a + b
abs_difference a b =
    cond_ind (ltb a b) (negsuc (b - suc a)) (pos (a - b)) (λ z. nat_abs z ≤ a + b) (λ t. low (ltb→lt a b t)) (λ t. omega arith)
  where
    low : a < b → suc (b - suc a) ≤ a + b
    low h = omega arith

pub abs_neg : (x : ℤ) → nat_abs (neg_ℤ x) ≡ nat_abs x
abs_neg (pos zero) = refl
abs_neg (pos (suc n)) = refl
abs_neg (negsuc n) = refl

pub abs_add : (x y : ℤ) → nat_abs (x +ℤ y) ≤ nat_abs x + nat_abs y
abs_add (pos a) (pos b) = omega arith
abs_add (pos a) (negsuc b) = abs_difference a (suc b)
abs_add (negsuc a) (pos b) = omega (arith, abs_difference b (suc a))
abs_add (negsuc a) (negsuc b) = omega arith

pub abs_sub : (x y : ℤ) → nat_abs (x -ℤ y) ≤ nat_abs x + nat_abs y
abs_sub x y = omega (arith, abs_add x (neg_ℤ y), abs_neg y)

pub abs_mul : (x y : ℤ) → nat_abs (x *ℤ y) ≡ nat_abs x * nat_abs y
abs_mul (pos a) (pos b) = refl
abs_mul (pos a) (negsuc b) = abs_neg (pos (a * suc b))
abs_mul (negsuc a) (pos b) = abs_neg (pos (suc a * b))
abs_mul (negsuc a) (negsuc b) = refl

pub square_nonneg : (x : ℤ) → T (non_neg (x *ℤ x))
square_nonneg (pos n) = tt
square_nonneg (negsuc n) = tt

-- `mag` is what the machine's fit is stated by: the least number of a width counts as the largest
pub mag_abs : (z : ℤ) → mag z ≤ nat_abs z
mag_abs (pos n) = omega arith
mag_abs (negsuc n) = omega arith

pub abs_mag : (z : ℤ) → nat_abs z ≤ mag z + 1
abs_mag (pos n) = omega arith
abs_mag (negsuc n) = omega arith

-- ---- squares of natural numbers
pub le_square : (n : ℕ) → n ≤ n * n
le_square zero = omega arith
le_square (suc n) = omega (arith, mul-le-mul (one-le n) (same n))
  where
    one-le : (n : ℕ) → 1 ≤ suc n
    one-le n = omega arith

    same : (n : ℕ) → suc n ≤ suc n
    same n = omega arith

-- a root is at most a bound whose square the square is below
pub root_le : (n bound : ℕ) → n * n ≤ bound * bound → n ≤ bound
root_le n bound h = pick (dec_le n bound)
  where
    pick : Dec (n ≤ bound) → n ≤ bound
    pick (yes p) = p
    pick (no p) = absurd (clash (mul-le-mul (over p) (over p)))
      where
        over : (n ≤ bound → ⊥) → suc bound ≤ n
        over p = omega arith

        clash : suc bound * suc bound ≤ n * n → ⊥
        clash b = omega arith
