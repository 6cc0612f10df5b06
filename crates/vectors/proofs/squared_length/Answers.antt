use mathlib.Core.Path.{◌≡◌, refl}
use Prim.Native.Nat.{◌*◌, ◌^◌, ◌≤◌}
use native.Mathlib.Nat.{mul-le-mul}
use native.Mathlib.Omega.{arith}
use lib.IntN.{ℤ, pos, nat_abs}
use lib.ListN.{get_or}
use mir.Syntax.{w16}
use mir.Val.{hbits}
use Rattle.laws.proofs.Bounds.{abs_mag}
use Rattle.laws.proofs.Machine.{element}
use Rattle.vectors.specs.Vectors.{squares}
use Rattle.vectors.proofs.Sums.{squares_more}
use Rattle.vectors.proofs.squared_length.Goals as goal

pub loop-entry-init : goal.loop-entry-init
unfolding squares
loop-entry-init c = (refl, omega arith)

pub loop-entry-preserved : goal.loop-entry-preserved
loop-entry-preserved c =
    let entry : ℤ = get_or c.args.x.now c.loop-entry.entry-index (pos 0) in
    let is_square : c.from-sum.result ≡ nat_abs entry * nat_abs entry = grind (arith, element) in
    let size : nat_abs entry ≤ 2 ^ hbits w16 = grind (arith, abs_mag) in
    let small : c.from-sum.result ≤ 2 ^ 30 = omega (arith, is_square, mul-le-mul size size) in
    (omega (arith, is_square, squares_more c.args.x.now c.loop-entry.entry-index (omega arith)), omega (arith, small))
