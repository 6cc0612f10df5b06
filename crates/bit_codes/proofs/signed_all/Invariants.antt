use Rattle.std.proofs.Common.{◌≤◌, length, map}
use Rattle.laws.proofs.Loops.{Rewritten}
use Rattle.byte_codes.specs.Bytes.{from_complement}
use Rattle.bit_codes.proofs.signed_all.Given as goal

abbrev pub invariant-loop-i : goal.invariant-loop-i
invariant-loop-i g l = (l.i ≤ length l.initial.out) × Rewritten l.initial.out (map (λ x. g.T.Whole.of_value (from_complement l.width x)) l.entries) l.i l.out
