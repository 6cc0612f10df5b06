use Rattle.std.proofs.Common.{◌≡◌, ℕ, ◌*◌, ◌<◌, ◌≤◌, ℤ, pos, nat_abs, ◌+ℤ◌, w32, ap, ap₂, ◌∙◌, arith}
use Rattle.std.specs.Int.{int_rem_euclid}
use Rattle.laws.proofs.Bounds.{abs_mag}
use Rattle.laws.proofs.Machine.{given, fits, positive, add_is}
use Rattle.sets.specs.Numbers.{twice_modulus, factor}
use Rattle.rounding.specs.Rounding.{summed}
use Rattle.rounding.proofs.Digits.{euclid}
use Rattle.rounding.proofs.sum.Goals as goal

pub returns : goal.returns
unfolding summed
returns c =
    let a = c.args in
    let t : ℕ = c.from.result in
    let y : ℤ = c.from-2.result in
    let y_is : y ≡ a.y = c.from-2.ensures ∙ (given c.ranges.y).back in
    let y_small : nat_abs y ≤ 32768 = rw y_is (omega (arith, abs_mag a.y, c.ranges.y.sfits)) in
    let t_small : t < 65536 = omega (arith, c.from.ensures, c.ranges.t) in
    let total = add_is (positive w32 (factor * t) (omega (arith, t_small))) (given {w = w32} (fits (omega (arith, y_small)))) (omega (arith, t_small, y_small)) in
    ap nat_abs ((given {w = w32} (record { sfits = c.rem_euclid.type_inv })).back ∙ c.rem_euclid.ensures.value
    ∙ ap (λ (z : ℤ). int_rem_euclid z (pos twice_modulus)) (total.back ∙ ap₂ (λ (n : ℕ) (z : ℤ). pos (factor * n) +ℤ z) c.from.ensures y_is))
    ∙ euclid (pos (factor * a.t) +ℤ a.y)
