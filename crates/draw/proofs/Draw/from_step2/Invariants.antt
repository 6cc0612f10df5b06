use mathlib.Core.Path.{◌≡◌}
use Prim.Native.Nat.{◌-◌, ◌≤◌}
use lib.ListN.{length}
use Rattle.draw.specs.Draw.{from_step2}
use Rattle.draw.proofs.Draw.from_step2.Given as goal

abbrev pub invariant-loop-taken : goal.invariant-loop-taken
invariant-loop-taken l = (l.at ≤ length l.self.words.now) × (from_step2 l.self.words.now l.self.thresholds.now l.x l.from ≡ from_step2 l.self.words.now l.self.thresholds.now l.x l.at)

abbrev pub decreases-loop-taken : goal.decreases-loop-taken
decreases-loop-taken l = length l.self.words.now - l.at
