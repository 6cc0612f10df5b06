use Prim.Native.Nat.{◌≤◌}
use Rattle.ring.proofs.Rows.{Window}
use Rattle.ring.proofs.block.Given as goal

abbrev pub invariant-loop-i : goal.invariant-loop-i
invariant-loop-i l = (l.i ≤ 8) × Window l.w l.f l.fn.s l.i l.c

abbrev pub decreases-loop-i : goal.decreases-loop-i
decreases-loop-i l = l.i
