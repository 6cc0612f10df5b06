use Rattle.vectors.specs.Pairs.{pair}
use Rattle.choices.proofs.Walk.{Walked}
use Rattle.choices.proofs.choose.Given as goal

abbrev pub invariant-loop-place : goal.invariant-loop-place
invariant-loop-place l = Walked (pair l.s1 l.s2) l.list l.place-index (pair l.v1 l.v2)
