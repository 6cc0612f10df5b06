use Rattle.std.proofs.Common.{◌≤◌}
use Rattle.choices_bench.proofs.fill.Given as goal

abbrev pub invariant-loop-entry : goal.invariant-loop-entry
invariant-loop-entry l = l.x ≤ 65536
