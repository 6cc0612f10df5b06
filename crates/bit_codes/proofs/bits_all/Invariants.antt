use Rattle.std.proofs.Common.{◌≤◌, length, map}
use Rattle.laws.proofs.Loops.{Rewritten}
use Rattle.byte_codes.specs.Bytes.{complement}
use Rattle.bit_codes.proofs.bits_all.Given as goal

abbrev pub invariant-loop-i : goal.invariant-loop-i
invariant-loop-i g l = (l.i ≤ length l.initial.out) × Rewritten l.initial.out (map (λ z. complement l.width (g.T.Whole.value z)) l.entries) l.i l.out
