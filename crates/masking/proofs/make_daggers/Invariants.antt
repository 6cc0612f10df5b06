use Rattle.laws.specs.Lists.{zip_with}
use Rattle.laws.proofs.Loops.{Rewritten}
use Rattle.rounding.specs.Rounding.{dagger}
use Rattle.masking.proofs.make_daggers.Given as goal

abbrev pub invariant-loop-i : goal.invariant-loop-i
invariant-loop-i l = Rewritten l.initial.out (zip_with (dagger l.fn.s) l.u l.z) l.i l.out
