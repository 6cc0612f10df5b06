-- What the length rule tells of z2 dagger. Assumes nothing.
use mathlib.Core.Path.{◌≡◌}
use mathlib.Core.List.{List}
use Prim.Native.Nat.{ℕ, ◌^◌, ◌<◌}
use native.Mathlib.Nat.{lt_of_mul-lt-mul_left, mul_comm}
use native.Mathlib.Omega.{arith}
use lib.IntN.{ℤ, pos, nat_abs}
use lib.ListN.{get_or}
use Rattle.sets.specs.declared.Set.{Set}
use Rattle.sets.specs.Numbers.{d_of, p_of}
use Rattle.sets.proofs.Alike.{largest_below_spread}
use Rattle.answers.specs.Outcomes.{Done}
use Rattle.limits.specs.LengthRule.{length_rule}
use Rattle.limits.proofs.Rule.{second_within}

pub dagger_below : (s : Set) (z1 z2 : List ℤ) → length_rule s z1 z2 ≡ Done → (k : ℕ) → nat_abs (get_or z2 k (pos 0)) < p_of s
dagger_below s z1 z2 e k =
    lt_of_mul-lt-mul_left (2 ^ d_of s) (omega (arith, second_within s z1 z2 e k, largest_below_spread s, mul_comm (p_of s) (2 ^ d_of s)))
