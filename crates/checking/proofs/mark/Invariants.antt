use mathlib.Core.Path.{◌≡◌}
use lib.ListN.{take}
use Rattle.checking.specs.Checking.{marks}
use Rattle.checking.proofs.mark.Given as goal

abbrev pub invariant-loop-place : goal.invariant-loop-place
invariant-loop-place l = l.marked ≡ marks (take l.place-index l.list)
