use mathlib.Core.List.{map}
use Rattle.laws.proofs.Loops.{Rewritten}
use Rattle.ring.proofs.residues.Given as goal

abbrev pub invariant-loop-i : goal.invariant-loop-i
invariant-loop-i g l = Rewritten l.initial.s (map g.T.Coefficient.modulo l.a) l.i l.s
