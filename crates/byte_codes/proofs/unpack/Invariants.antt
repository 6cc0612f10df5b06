use Rattle.std.proofs.Common.{map, ◌≤◌, length}
use Rattle.laws.proofs.Loops.{Rewritten}
use Rattle.byte_codes.specs.Bytes.{unpacked}
use Rattle.byte_codes.proofs.unpack.Given as goal

abbrev pub invariant-loop-i : goal.invariant-loop-i
invariant-loop-i g l =
    let t = g.T.Number in
    (l.i ≤ length l.initial.entries) × Rewritten l.initial.entries (map t.from_code (unpacked t.WIDTH (length l.initial.entries) l.bytes)) l.i l.entries
