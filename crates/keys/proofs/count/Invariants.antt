use mathlib.Core.Path.{◌≡◌}
use Prim.Native.Nat.{◌≤◌}
use lib.ListN.{take}
use Rattle.sets.specs.Numbers.{dimension}
use Rattle.keys.specs.Key.{counted}
use Rattle.keys.proofs.count.Given as goal

abbrev pub invariant-loop-coefficient : goal.invariant-loop-coefficient
invariant-loop-coefficient l = (l.coefficient-index ≤ dimension) × (l.found ≡ counted l.size (take l.coefficient-index l.f)) × (l.found ≤ l.coefficient-index)
