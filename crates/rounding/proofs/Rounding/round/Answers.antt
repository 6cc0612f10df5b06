use Rattle.std.proofs.Common.{◌≡◌, ℕ, ◌+◌, ◌*◌, ◌-◌, ◌/◌, ◌%◌, ◌^◌, ◌<◌, ◌≤◌, ℤ, pos, ◌-ℤ◌, w16, to_z, of_z, sym, ap, ap₂, ◌∙◌, arith}
use native.Mathlib.Nat.{one-mul, mul_comm, mod-eq_of_lt}
use mir.Val.{SFits}
use Rattle.laws.proofs.Machine.{Reads, fits, positive, operation_is}
use Rattle.sets.specs.declared.Set.{Set}
use Rattle.sets.specs.Numbers.{twice_modulus, d_of, p_of}
use Rattle.sets.proofs.Alike.{step_small}
use Rattle.rounding.specs.declared.Rounded.{Rounded}
use Rattle.rounding.specs.Rounding.{quotient, rest, rounded}
use Rattle.rounding.proofs.Laws.{halves, quotient_nearest}
use Rattle.rounding.proofs.Digits.{upper_last, upper_inner, rest_small}
use Rattle.rounding.proofs.Rounding.round.Goals as goal

module _ (s : Set) (d p x : ℕ) (d_is : d ≡ d_of s) (p_is : p ≡ p_of s) (small : x < twice_modulus) where
  half : 1 * 2 ^ (d - 1) % 2 ^ 32 ≡ 2 ^ (d_of s - 1)
  half =
      ap (λ (n : ℕ). 1 * 2 ^ (n - 1) % 2 ^ 32) d_is ∙ ap (λ (n : ℕ). n % 2 ^ 32) (one-mul (2 ^ (d_of s - 1))) ∙ mod-eq_of_lt (omega (arith, halves s, step_small s))

  abbrev counted : ℕ
  counted = (x + 1 * 2 ^ (d - 1) % 2 ^ 32) / 2 ^ d

  steps : counted ≡ quotient s x
  unfolding quotient
  steps =
      ap (λ (n : ℕ). (x + n) / 2 ^ d) half ∙ ap (λ (n : ℕ). (x + 2 ^ (d_of s - 1)) / 2 ^ n) d_is

  abbrev below : ℕ
  below = 2 ^ d_of s * quotient s x

  -- the nearest step is less than half a step from x, and so fits
  near : (below ≤ x + 512) × (x < below + 512) × (x < 24578)
  near =
      let n = quotient_nearest s x in
      (omega (arith, n, halves s, step_small s), omega (arith, n, halves s, step_small s), small)

  stepped : counted * 2 ^ d % 2 ^ 32 ≡ below
  stepped =
      ap₂ (λ (n k : ℕ). n * 2 ^ k % 2 ^ 32) steps d_is ∙ ap (λ (n : ℕ). n % 2 ^ 32) (mul_comm (quotient s x) (2 ^ d_of s)) ∙ mod-eq_of_lt (omega (arith, near))

  rest_is : to_z w16 (of_z w16 (to_z w16 x -ℤ to_z w16 (counted * 2 ^ d % 2 ^ 32))) ≡ rest s x
  unfolding rest
  rest_is =
      let stepped_is : Reads w16 (counted * 2 ^ d % 2 ^ 32) (pos below) = rw stepped (positive w16 below (omega (arith, near))) in
      let small_rest : SFits w16 (rest s x) = fits (omega (arith, rest_small s x)) in
      (operation_is (positive w16 x (omega (arith, near))) stepped_is ◌-ℤ◌ small_rest).back

  abbrev answer : ℕ → ℤ → Rounded
  answer n r = record { digits = n; rest = r }

  abbrev rest_there : ℤ
  rest_there = to_z w16 (of_z w16 (to_z w16 x -ℤ to_z w16 (counted * 2 ^ d % 2 ^ 32)))

  last : counted ≡ p → answer 0 rest_there ≡ rounded s x
  last e = ap₂ answer (upper_last s x small (sym steps ∙ e ∙ p_is)) rest_is

  inner : (counted ≡ p → ⊥) → answer counted rest_there ≡ rounded s x
  inner n = ap₂ answer (steps ∙ upper_inner s x small (λ e. n (steps ∙ e ∙ sym p_is))) rest_is

pub returns-then-steps-self : goal.returns-then-steps-self
returns-then-steps-self c =
    let s = c.args.self in
    last s.set s.d s.p c.args.x s.of_set.0 s.of_set.1 c.requires c.if-steps-self.true

pub returns-else-steps-self : goal.returns-else-steps-self
returns-else-steps-self c =
    let s = c.args.self in
    inner s.set s.d s.p c.args.x s.of_set.0 s.of_set.1 c.requires c.if-steps-self.false
