use Rattle.std.proofs.Common.{◌≤◌, length}
use Rattle.laws.proofs.Loops.{Rewritten}
use Rattle.bit_codes.specs.Bits.{packed_bits}
use Rattle.bit_codes.proofs.pack.Given as goal

abbrev pub invariant-loop-k : goal.invariant-loop-k
invariant-loop-k l = (l.k ≤ length l.initial.out) × Rewritten l.initial.out (packed_bits l.width (length l.entries) l.entries) l.k l.out
