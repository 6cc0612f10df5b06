use mathlib.Core.List.{map}
use Rattle.laws.proofs.Loops.{Rewritten}
use Rattle.rounding.specs.Rounding.{rest}
use Rattle.commitment.proofs.take_rests.Given as goal

abbrev pub invariant-loop-i : goal.invariant-loop-i
invariant-loop-i l = Rewritten l.initial.rests (map (rest l.by.set) l.u) l.i l.rests
