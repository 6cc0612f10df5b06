use lib.IntN.{◌-ℤ◌}
use Rattle.laws.specs.Lists.{zip_with}
use Rattle.laws.proofs.Loops.{Rewritten}
use Rattle.vectors.proofs.subtract_from.Given as goal

abbrev pub invariant-loop-i : goal.invariant-loop-i
invariant-loop-i l = Rewritten l.initial.v (zip_with ◌-ℤ◌ l.initial.v l.c) l.i l.v
