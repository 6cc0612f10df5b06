use Rattle.polynomials.specs.Field.{add}
use Rattle.ring.specs.Transform.{back}
use Rattle.ring.proofs.Halves.{Passed}
use Rattle.ring.proofs.join.Given as goal

abbrev pub invariant-loop-i : goal.invariant-loop-i
invariant-loop-i l = Passed add (back l.v) l.initial.low l.initial.high l.i l.low l.high
