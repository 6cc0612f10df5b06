use mathlib.Core.Path.{◌≡◌}
use Prim.Native.Nat.{◌*◌, ◌≤◌}
use lib.IntN.{pos, nat_abs}
use lib.ListN.{get_or}
use Rattle.laws.specs.Integers.{sumℤ}
use Rattle.choices.proofs.total.Given as goal

abbrev pub invariant-loop-x : goal.invariant-loop-x
invariant-loop-x l = (l.sum ≡ sumℤ (λ k. get_or l.sums k (pos 0)) l.x-index) × (nat_abs l.sum ≤ 32768 * l.x-index)
