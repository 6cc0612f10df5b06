use Rattle.laws.specs.Lists.{zip_with}
use Rattle.laws.proofs.Loops.{Rewritten}
use Rattle.rounding.specs.Rounding.{restored}
use Rattle.checking.proofs.restore_all.Given as goal

abbrev pub invariant-loop-i : goal.invariant-loop-i
invariant-loop-i l = Rewritten l.initial.w (zip_with (restored l.by.set) l.initial.w l.z2) l.i l.w
