use mathlib.Core.List.{map}
use Rattle.laws.proofs.Loops.{Rewritten}
use Rattle.polynomials.specs.Field.{mul}
use Rattle.ring.proofs.rescale.Given as goal

abbrev pub invariant-loop-x : goal.invariant-loop-x
invariant-loop-x l = Rewritten l.initial.s (map (mul 12097) l.initial.s) l.x-index l.s
