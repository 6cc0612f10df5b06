-- Residues modulo 12289: the laws of sums and products, a list of them that sorts both sides of an equation alike, and the powers of 49.
-- Assumes nothing.
use mathlib.Core.Path.{◌≡◌, refl, ap, ap₂, sym, fun_ext, ◌∙◌}
use mathlib.Core.List.{List, [], ◌∷◌}
use Prim.Native.Nat.{ℕ, zero, suc, ◌+◌, ◌*◌, ◌/◌, ◌%◌, ◌≤◌}
use native.Mathlib.Nat as N
use native.Mathlib.Omega.{arith}
use Rattle.laws.specs.Lists.{tabulate}
use Rattle.sets.specs.Numbers.{modulus}
use Rattle.ring.specs.Transform.{sub}
use Rattle.polynomials.specs.Field.{add, mul}
use Rattle.ring.specs.Powers.{power}

-- a product does not change when a factor is reduced
mod_left : (a b m : ℕ) → a % m * b % m ≡ a * b % m
mod_left a b m =
    sym (ap (λ (n : ℕ). n * b % m) (sym (N.mod-add-div a m))
    ∙ ap (λ (n : ℕ). n % m) (N.add-mul (a % m) (m * (a / m)) b ∙ ap (λ (n : ℕ). a % m * b + n) (N.mul_assoc m (a / m) b))
    ∙ N.add-mul-mod_self_left (a % m * b) m (a / m * b))

mod_right : (a b m : ℕ) → a * (b % m) % m ≡ a * b % m
mod_right a b m = ap (λ (n : ℕ). n % m) (N.mul_comm a (b % m)) ∙ mod_left b a m ∙ ap (λ (n : ℕ). n % m) (N.mul_comm b a)

pub add_comm : (x y : ℕ) → add x y ≡ add y x
unfolding add
add_comm x y = ap (λ (n : ℕ). n % modulus) (N.add_comm x y)

pub add_assoc : (x y z : ℕ) → add (add x y) z ≡ add x (add y z)
unfolding add
add_assoc x y z =
    N.mod-add-mod (x + y) modulus z ∙ ap (λ (n : ℕ). n % modulus) (N.add_assoc x y z) ∙ sym (N.add-mod-mod x (y + z) modulus)

pub add_left_comm : (x y z : ℕ) → add x (add y z) ≡ add y (add x z)
add_left_comm x y z = sym (add_assoc x y z) ∙ ap (λ (n : ℕ). add n z) (add_comm x y) ∙ add_assoc y x z

pub mul_comm : (x y : ℕ) → mul x y ≡ mul y x
unfolding mul
mul_comm x y = ap (λ (n : ℕ). n % modulus) (N.mul_comm x y)

pub mul_assoc : (x y z : ℕ) → mul (mul x y) z ≡ mul x (mul y z)
unfolding mul
mul_assoc x y z =
    mod_left (x * y) z modulus ∙ ap (λ (n : ℕ). n % modulus) (N.mul_assoc x y z) ∙ sym (mod_right x (y * z) modulus)

pub mul_left_comm : (x y z : ℕ) → mul x (mul y z) ≡ mul y (mul x z)
mul_left_comm x y z = sym (mul_assoc x y z) ∙ ap (λ (n : ℕ). mul n z) (mul_comm x y) ∙ mul_assoc y x z

pub mul-add : (x y z : ℕ) → mul x (add y z) ≡ add (mul x y) (mul x z)
unfolding add mul
mul-add x y z =
    mod_right x (y + z) modulus ∙ ap (λ (n : ℕ). n % modulus) (N.mul-add x y z) ∙ N.add-mod (x * y) (x * z) modulus

pub add-mul : (x y z : ℕ) → mul (add x y) z ≡ add (mul x z) (mul y z)
add-mul x y z = mul_comm (add x y) z ∙ mul-add z x y ∙ ap₂ add (mul_comm z x) (mul_comm z y)

pub ruleset field = (add_comm, add_assoc, add_left_comm, mul_comm, mul_assoc, mul_left_comm, mul-add, add-mul)

-- ---- bounds, zero and one

pub add-le : (x y : ℕ) → add x y ≤ 12288
unfolding add
add-le x y = omega arith

pub mul-le : (x y : ℕ) → mul x y ≤ 12288
unfolding mul
mul-le x y = omega arith

pub mul-zero : (x : ℕ) → mul x 0 ≡ 0
unfolding mul
mul-zero x = ap (λ (n : ℕ). n % modulus) (N.mul-zero x)

pub zero-add : (x : ℕ) → x ≤ 12288 → add 0 x ≡ x
unfolding add
zero-add x h = ap (λ (n : ℕ). n % modulus) (N.zero-add x) ∙ N.mod-eq_of_lt (omega arith)

pub one-mul : (x : ℕ) → x ≤ 12288 → mul 1 x ≡ x
unfolding mul
one-mul x h = ap (λ (n : ℕ). n % modulus) (N.one-mul x) ∙ N.mod-eq_of_lt (omega arith)

-- ---- -1 is 12288

pub cancels : (x : ℕ) → sub x x ≡ 0
unfolding add mul
cancels x =
    N.add-mod-mod x (12288 * x) modulus ∙ ap (λ (n : ℕ). n % modulus) (omega arith) ∙ N.mul-mod_right modulus x

pub twice_negative : (x : ℕ) → mul 12288 (mul 12288 x) ≡ mul 1 x
unfolding mul
twice_negative x = sym (mul_assoc 12288 12288 x)

pub square_negative : (w : ℕ) → mul (mul 12288 w) (mul 12288 w) ≡ mul w w
square_negative w =
    mul_assoc 12288 w (mul 12288 w) ∙ ap (mul 12288) (mul_left_comm w 12288 w) ∙ twice_negative (mul w w) ∙ one-mul (mul w w) (mul-le w w)

pub double : (c x : ℕ) → mul (c + c) x ≡ add (mul c x) (mul c x)
unfolding add mul
double c x = ap (λ (n : ℕ). n % modulus) (N.add-mul c c x) ∙ N.add-mod (c * x) (c * x) modulus

-- ---- the powers of 49

pub power_le : (i : ℕ) → power i ≤ 12288
unfolding power
power_le zero = omega arith
power_le (suc i) = omega arith

pub power_add : (i j : ℕ) → power (i + j) ≡ mul (power i) (power j)
unfolding power mul
power_add zero j = ap power (N.zero-add j) ∙ sym (one-mul (power j) (power_le j))
power_add (suc i) j = ap power (N.suc-add i j) ∙ ap (mul 49) (power_add i j) ∙ sym (mul_assoc 49 (power i) (power j))

-- 01, "Ring arithmetic": entry 3 of the table is 7048 and entry 512 is 12288
pub power_points : (power 3 ≡ 7048) × (power 512 ≡ 12288)
unfolding power
power_points = (refl, refl)

pub power_opposite : (i : ℕ) → power (i + 512) ≡ mul 12288 (power i)
power_opposite i = power_add i 512 ∙ ap (mul (power i)) power_points.1 ∙ mul_comm (power i) 12288

-- n numbers from x on, each 49 times the one before: the table is tested against these, in as many steps as it has entries
unfoldable pub onward : ℕ → ℕ → List ℕ
onward x zero = []
onward x (suc n) = x ∷ onward (49 * x % modulus) n

onward_from : (k n : ℕ) → onward (power k) n ≡ tabulate (λ i. power (i + k)) n
unfolding onward tabulate power
onward_from k zero = refl
onward_from k (suc n) =
    ap₂ ◌∷◌ (ap power (sym (N.zero-add k)))
    (onward_from (suc k) n ∙ ap (λ (f : ℕ → ℕ). tabulate f n) (fun_ext (λ i. ap power (N.add-suc i k ∙ sym (N.suc-add i k)))))

pub onward_powers : (n : ℕ) → onward 1 n ≡ tabulate power n
unfolding power
onward_powers n = onward_from 0 n ∙ ap (λ (f : ℕ → ℕ). tabulate f n) (fun_ext (λ i. ap power (N.add-zero i)))
