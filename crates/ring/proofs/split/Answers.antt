use mathlib.Core.Path.{ap, ◌∙◌}
use Prim.Native.Nat.{ℕ}
use native.Mathlib.Omega.{arith}
use lib.ListN.{get_or}
use Rattle.polynomials.specs.Field.{add, mul}
use Rattle.ring.specs.Transform.{sub}
use Rattle.ring.proofs.Field.{mul-le}
use Rattle.ring.proofs.Halves.{within, more, finish}
use Rattle.ring.proofs.split.Goals as goal

pub difference-requires : goal.difference-requires
difference-requires c =
    let r = c.requires in (
      omega (arith, (within _ _ _ _ r.0 c.loop-i.invariant c.loop-i-test.true 12288 r.2 r.3).0),
      omega (arith, c.times-y.ensures, mul-le c.new-factor.result (get_or c.loop-i.high c.loop-i.i 0)),
    )

pub sum-requires : goal.sum-requires
sum-requires c =
    let r = c.requires in (
      omega (arith, (within _ _ _ _ r.0 c.loop-i.invariant c.loop-i-test.true 12288 r.2 r.3).0),
      omega (arith, c.times-y.ensures, mul-le c.new-factor.result (get_or c.loop-i.high c.loop-i.i 0)),
    )

pub loop-i-preserved : goal.loop-i-preserved
loop-i-preserved c =
    let y = c.times-y.ensures ∙ ap (λ (w : ℕ). mul w (get_or c.loop-i.high c.loop-i.i 0)) c.new-factor.ensures in
    more _ _ _ _ c.requires.0 c.loop-i.invariant c.loop-i-test.true _ _ (c.sum.ensures ∙ ap (add _) y) (c.difference.ensures ∙ ap (sub _) y)

pub returns-clause-low : goal.returns-clause-low
returns-clause-low c = (finish _ _ _ _ c.requires.0 c.loop-i.invariant c.loop-i-test.false).0

pub returns-clause-high : goal.returns-clause-high
returns-clause-high c = (finish _ _ _ _ c.requires.0 c.loop-i.invariant c.loop-i-test.false).1
