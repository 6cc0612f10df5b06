use Prim.Native.Nat.{◌≤◌}
use Rattle.laws.proofs.Loops.{Rewritten}
use Rattle.sets.specs.Numbers.{dimension}
use Rattle.keys.proofs.Second.{doubled}
use Rattle.keys.proofs.make_second.Given as goal

abbrev pub invariant-loop-coefficient : goal.invariant-loop-coefficient
invariant-loop-coefficient l = (l.coefficient-index ≤ dimension) × Rewritten l.initial.g (doubled l.initial.g) l.coefficient-index l.g
