use mathlib.Core.Path.{◌≡◌, refl, sym, ap, ◌∙◌}
use Prim.Native.Nat.{ℕ, ◌+◌, ◌*◌, ◌<◌, ◌≤◌}
use native.Mathlib.Omega.{arith}
use borrow.Author.Rules.{rules}
use lib.IntN.{ℤ, pos, nat_abs, ◌+ℤ◌}
use lib.ListN.{get_or}
use mir.Syntax.{w16, w32}
use mir.Val.{SFits, to_z, of_z}
use mir.Facts.{to_z-of_z}
use Rattle.laws.specs.Integers.{sumℤ}
use Rattle.laws.proofs.Bounds.{abs_add, abs_mag}
use Rattle.laws.proofs.Sums.{sum_more}
use Rattle.laws.proofs.Machine.{Reads, held, given, fits, operation_is}
use Rattle.choices.proofs.total.Goals as goal

pub loop-x-init : goal.loop-x-init
unfolding sumℤ
loop-x-init c = (refl, omega arith)

-- a term of 16 bits joins a sum of fewer than 128 of them
module _ (sum i : ℕ) (term wide : ℤ) (entry : SFits w16 term) (is : wide ≡ to_z w16 (of_z w16 term)) (small : nat_abs (to_z w32 sum) ≤ 32768 * i) (inside : i < 128) where
  term_small : nat_abs term ≤ 32768
  term_small = omega (arith, abs_mag term, entry.sfits)

  reads : Reads w32 (of_z w32 wide) term
  reads = record { back = ap (λ (z : ℤ). to_z w32 (of_z w32 z)) (is ∙ to_z-of_z entry) ∙ (given (fits {w = w32} {z = term} (omega (arith, term_small)))).back }

  next_small : nat_abs (to_z w32 sum +ℤ term) ≤ 32768 * (i + 1)
  next_small = omega (arith, abs_add (to_z w32 sum) term, term_small)

  next : to_z w32 (of_z w32 (to_z w32 sum +ℤ to_z w32 (of_z w32 wide))) ≡ to_z w32 sum +ℤ term
  next = (operation_is (held w32 sum) reads ◌+ℤ◌ (fits (omega (arith, next_small)))).back

pub loop-x-preserved : goal.loop-x-preserved
loop-x-preserved c =
    let i = c.loop-x.x-index in
    let sum = c.loop-x.sum-bits in
    let entries : ℕ → ℤ = λ k. get_or c.args.sums.now k (pos 0) in
    let entry : SFits w16 (get_or c.args.sums.now i (pos 0)) = search rules in
    let inside : i < 128 = omega arith in
    let is = next sum i (entries i) c.from-sum.result entry c.from-sum.ensures c.loop-x.invariant.1 inside in (
      is ∙ ap (λ (z : ℤ). z +ℤ entries i) c.loop-x.invariant.0 ∙ sym (sum_more entries i),
      omega (arith, ap nat_abs is, next_small sum i (entries i) c.from-sum.result entry c.from-sum.ensures c.loop-x.invariant.1 inside),
    )
