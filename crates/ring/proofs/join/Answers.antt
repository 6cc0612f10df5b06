use mathlib.Core.Path.{ap₂, ◌∙◌}
use Rattle.polynomials.specs.Field.{mul}
use Rattle.ring.proofs.Halves.{more, finish}
use Rattle.ring.proofs.join.Goals as goal

pub loop-i-preserved : goal.loop-i-preserved
loop-i-preserved c =
    more _ _ _ _ c.requires.0 c.loop-i.invariant c.loop-i-test.true _ _ c.sum.ensures (c.times.ensures ∙ ap₂ mul c.new-factor.ensures c.difference.ensures)

pub returns-clause-low : goal.returns-clause-low
returns-clause-low c = (finish _ _ _ _ c.requires.0 c.loop-i.invariant c.loop-i-test.false).0

pub returns-clause-high : goal.returns-clause-high
returns-clause-high c = (finish _ _ _ _ c.requires.0 c.loop-i.invariant c.loop-i-test.false).1
