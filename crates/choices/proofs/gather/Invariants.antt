use Rattle.laws.proofs.Loops.{Rewritten}
use Rattle.choices.proofs.Quarters.{more_products}
use Rattle.choices.proofs.gather.Given as goal

abbrev pub invariant-loop-i : goal.invariant-loop-i
invariant-loop-i l = Rewritten l.initial.sums (more_products l.initial.sums l.a l.b) l.i l.sums
