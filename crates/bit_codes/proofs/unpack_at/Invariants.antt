use Rattle.std.proofs.Common.{◌≡◌, ◌≤◌, ◌+◌, ◌*◌, length}
use Rattle.laws.proofs.Loops.{Rewritten}
use Rattle.bit_codes.specs.Bits.{entries_from}
use Rattle.bit_codes.proofs.unpack_at.Given as goal

abbrev pub invariant-loop-entry : goal.invariant-loop-entry
invariant-loop-entry l =
    (l.entry-index ≤ length l.initial.entries) × (l.place ≡ l.at + l.width * l.entry-index)
    × Rewritten l.initial.entries (entries_from l.at l.width (length l.initial.entries) l.bytes) l.entry-index l.entries
