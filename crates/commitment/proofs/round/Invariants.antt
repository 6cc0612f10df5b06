use mathlib.Core.List.{map}
use Rattle.laws.proofs.Loops.{Rewritten}
use Rattle.rounding.specs.Rounding.{upper}
use Rattle.commitment.proofs.round.Given as goal

abbrev pub invariant-loop-entry : goal.invariant-loop-entry
invariant-loop-entry l = Rewritten l.initial.u (map (upper l.by.set) l.initial.u) l.entry-index l.u
