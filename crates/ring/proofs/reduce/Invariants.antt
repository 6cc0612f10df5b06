use mathlib.Core.List.{map}
use Prim.Native.Nat.{◌%◌}
use lib.ListN.{take}
use Rattle.laws.proofs.Loops.{Rewritten}
use Rattle.sets.specs.Numbers.{modulus}
use Rattle.ring.proofs.reduce.Given as goal

abbrev pub invariant-loop-i : goal.invariant-loop-i
invariant-loop-i l = Rewritten l.initial.s (map (λ x. x % modulus) (take 8 l.c)) l.i l.s
