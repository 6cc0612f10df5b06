use Rattle.laws.proofs.Loops.{Rewritten}
use Rattle.vectors.proofs.widen.Given as goal

abbrev pub invariant-loop-i : goal.invariant-loop-i
invariant-loop-i l = Rewritten l.initial.out l.x l.i l.out
