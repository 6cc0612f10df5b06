use Rattle.ring.specs.Transform.{plus, minus}
use Rattle.ring.proofs.Halves.{Passed}
use Rattle.ring.proofs.split.Given as goal

abbrev pub invariant-loop-i : goal.invariant-loop-i
invariant-loop-i l = Passed (plus l.w) (minus l.w) l.initial.low l.initial.high l.i l.low l.high
