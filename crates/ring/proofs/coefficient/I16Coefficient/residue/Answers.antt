use mathlib.Core.Path.{◌≡◌, refl, ap, ◌∙◌}
use native.Mathlib.Omega.{arith}
use lib.IntN.{ℤ, pos, negsuc, nat_abs}
use mir.Syntax.{w16}
use mir.Facts.{to_z-of_z}
use Rattle.std.specs.Int.{int_rem_euclid}
use Rattle.laws.specs.Integers.{residue}
use Rattle.ring.proofs.coefficient.I16Coefficient.residue.Goals as goal

euclid : (z : ℤ) → nat_abs (int_rem_euclid z (pos 12289)) ≡ residue 12289 z
unfolding residue
euclid (pos n) = refl
euclid (negsuc n) = omega arith

pub returns : goal.returns
returns c =
    ap nat_abs (to_z-of_z {w = w16} (record { sfits = c.rem_euclid.type_inv }) ∙ c.rem_euclid.ensures.value ∙ ap (λ (z : ℤ). int_rem_euclid z (pos 12289)) (to_z-of_z c.ranges.self))
    ∙ euclid c.args.self
