-- Bounds of products, and a product by w whose quotient is estimated by w's ratio.
-- Assumes nothing.
use mathlib.Core.Path.{◌≡◌, ap, sym, ◌∙◌}
use Prim.Native.Nat.{ℕ, ◌+◌, ◌*◌, ◌-◌, ◌/◌, ◌%◌, ◌<◌, ◌≤◌}
use native.Mathlib.Nat.{mul-le-mul, add-mul, mul_right_comm, div-add-mod'}
use native.Mathlib.Omega.{arith}
use Rattle.sets.specs.Numbers.{modulus}

-- a product of two residues
pub residues_product : {x y : ℕ} → x ≤ 12288 → y ≤ 12288 → x * y ≤ 150994944
residues_product p q = mul-le-mul p q

-- r y / 2^16 is at most w y / q and misses it by less than 2, where r is 2^16 w / q, rounded down
pub estimated : (w r y : ℕ) → r ≡ w * 65536 / modulus → y ≤ 65535 → (r * y / 65536 * modulus ≤ w * y) × (w * y < r * y / 65536 * modulus + 24578)
estimated w r y is h =
    let rest = w * 65536 % modulus in
    let e : r * y * modulus + rest * y ≡ w * y * 65536
    = ap (λ (n : ℕ). n + rest * y) (mul_right_comm r y modulus) ∙ sym (add-mul (r * modulus) rest y)
    ∙ ap (λ (n : ℕ). n * y) (omega (arith, div-add-mod' (w * 65536) modulus)) ∙ mul_right_comm w 65536 y in
    let rest_small : rest ≤ 12288 = omega arith in
    let small : rest * y ≤ 805294080 = mul-le-mul rest_small h in
    (omega arith, omega arith)

-- a difference that is small shows in the last 16 bits
pub seen : (a b : ℕ) → b ≤ a → a < b + 24578 → (a % 65536 + (65536 - b % 65536)) % 65536 ≡ a - b
seen a b p q = omega arith

-- multiples of q taken off leave the residue
pub residue_left : (p k : ℕ) → k * modulus ≤ p → (p - k * modulus) % modulus ≡ p % modulus
residue_left p k h = omega arith
