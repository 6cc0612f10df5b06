use mathlib.Core.List.{List}
use Prim.Native.Nat.{ℕ, ◌+◌, ◌*◌}
use lib.ListN.{take}
use Rattle.laws.specs.Lists.{zip_with}
use Rattle.laws.proofs.Loops.{Rewritten}
use Rattle.ring.proofs.row.Given as goal

abbrev added : ℕ → List ℕ → List ℕ → List ℕ
added a s c = zip_with (λ y z. z + a * y) s (take 8 c)

abbrev pub invariant-loop-i : goal.invariant-loop-i
invariant-loop-i l = Rewritten (take 8 l.initial.c) (added l.a l.s l.initial.c) l.i (take 8 l.c)
