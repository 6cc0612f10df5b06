use Rattle.laws.specs.Lists.{zip_with}
use Rattle.laws.proofs.Loops.{Rewritten}
use Rattle.rounding.specs.Rounding.{summed}
use Rattle.commitment.proofs.add_sums.Given as goal

abbrev pub invariant-loop-i : goal.invariant-loop-i
invariant-loop-i l = Rewritten l.initial.t (zip_with summed l.initial.t l.y) l.i l.t
