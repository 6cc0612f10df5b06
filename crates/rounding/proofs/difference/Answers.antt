use Rattle.std.proofs.Common.{◌≡◌, ◌≤◌, ℤ, pos, nat_abs, ◌-ℤ◌, w32, ap, ◌∙◌, arith}
use Rattle.std.specs.Int.{int_rem_euclid}
use Rattle.laws.proofs.Bounds.{abs_mag}
use Rattle.laws.proofs.Machine.{given, fits, positive, sub_is}
use Rattle.sets.specs.Numbers.{twice_modulus}
use Rattle.rounding.proofs.Digits.{euclid}
use Rattle.rounding.proofs.difference.Goals as goal

pub returns : goal.returns
returns c =
    let a = c.args in
    let z : ℤ = c.from.result in
    let z_is : z ≡ a.z = c.from.ensures ∙ (given c.ranges.z).back in
    let z_small : nat_abs z ≤ 32768 = rw z_is (omega (arith, abs_mag a.z, c.ranges.z.sfits)) in
    let total = sub_is (positive w32 a.u (omega (arith, c.requires))) (given {w = w32} (fits (omega (arith, z_small)))) (omega (arith, c.requires, z_small)) in
    ap nat_abs ((given {w = w32} (record { sfits = c.rem_euclid.type_inv })).back ∙ c.rem_euclid.ensures.value
    ∙ ap (λ (x : ℤ). int_rem_euclid x (pos twice_modulus)) (total.back ∙ ap (λ (x : ℤ). pos a.u -ℤ x) z_is))
    ∙ euclid (pos a.u -ℤ a.z)
