use mathlib.Core.Path.{◌≡◌}
use Prim.Native.Nat.{◌*◌, ◌^◌, ◌≤◌}
use lib.ListN.{take}
use Rattle.vectors.specs.Vectors.{squares}
use Rattle.vectors.proofs.squared_length.Given as goal

abbrev pub invariant-loop-entry : goal.invariant-loop-entry
invariant-loop-entry l = (l.sum ≡ squares (take l.entry-index l.x)) × (l.sum ≤ 2 ^ 30 * l.entry-index)
