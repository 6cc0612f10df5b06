use lib.IntN.{neg_ℤ}
use mathlib.Core.List.{map}
use Rattle.laws.proofs.Loops.{Rewritten}
use Rattle.vectors.proofs.negate.Given as goal

abbrev pub invariant-loop-i : goal.invariant-loop-i
invariant-loop-i l = Rewritten l.initial.out (map neg_ℤ l.x) l.i l.out
