use mathlib.Core.Path.{◌≡◌}
use Prim.Native.Nat.{◌≤◌}
use Rattle.sets.specs.Numbers.{places}
use Rattle.draw.specs.Draw.{trial_from, trial_of}
use Rattle.draw.proofs.Draw.attempt.Given as goal

abbrev pub invariant-loop-place : goal.invariant-loop-place
invariant-loop-place l = (l.place ≤ places) × (trial_of l.self.words.now l.self.thresholds.now l.x l.from ≡ trial_from l.self.words.now l.self.thresholds.now l.place l.x l.next)
