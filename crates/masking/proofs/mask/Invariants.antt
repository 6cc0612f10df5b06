use mathlib.Core.Bool.{not}
use Rattle.laws.specs.Lists.{zip_with}
use Rattle.laws.proofs.Loops.{Rewritten}
use Rattle.choices.specs.Choices.{added_if}
use Rattle.masking.proofs.mask.Given as goal

abbrev pub invariant-loop-i : goal.invariant-loop-i
invariant-loop-i l = Rewritten l.initial.v (zip_with (added_if (not l.sign)) l.y l.initial.v) l.i l.v
