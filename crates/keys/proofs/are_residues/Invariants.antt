use mathlib.Core.Path.{◌≡◌}
use mathlib.Core.Bool.{◌&&◌}
use mathlib.Core.List.{List, map}
use Prim.Native.Nat.{ℕ, ◌-◌, ◌≤◌}
use lib.IntN.{ℤ}
use lib.ListN.{drop}
use Rattle.laws.specs.Integers.{residue}
use Rattle.laws.specs.Lists.{same}
use Rattle.sets.specs.Numbers.{dimension, modulus}
use Rattle.keys.proofs.are_residues.Given as goal

abbrev residues : List ℤ → List ℕ
residues = map (residue modulus)

abbrev pub invariant-loop-i : goal.invariant-loop-i
invariant-loop-i l = (l.i ≤ dimension) × (same l.t (residues l.s) ≡ l.all && same (drop l.i l.t) (drop l.i (residues l.s)))

abbrev pub decreases-loop-i : goal.decreases-loop-i
decreases-loop-i l = dimension - l.i
