use Rattle.std.proofs.Common.{◌≤◌, ℤ, pos, nat_abs, ◌-ℤ◌, w8, ◌∙◌, arith}
use Rattle.laws.proofs.Linear.{size_le, difference}
use Rattle.laws.proofs.Machine.{fits, positive, operation_is}
use Rattle.sets.specs.Numbers.{p_of}
use Rattle.sets.proofs.Alike.{p_small}
use Rattle.rounding.proofs.Digits.{centre_low, centre_high}
use Rattle.rounding.proofs.Rounding.centre.Goals as goal

pub returns-then-x-self : goal.returns-then-x-self
returns-then-x-self c =
    let s = c.args.self in
    (positive w8 c.args.x (omega (arith, p_small s.set, s.of_set))).back ∙ centre_low s.set c.args.x (omega (arith, s.of_set))

pub returns-else-x-self : goal.returns-else-x-self
returns-else-x-self c =
    let s = c.args.self in
    let x : ℤ = pos c.args.x in
    let p : ℤ = pos (p_of s.set) in
    let small : nat_abs (x -ℤ p) ≤ 96 = size_le (x -ℤ p) 96 (omega (arith, difference x p, p_small s.set)) (omega (arith, difference x p, p_small s.set)) in
    rw s.of_set.1 (
    (operation_is (positive w8 c.args.x (omega (arith, p_small s.set))) (positive w8 (p_of s.set) (omega (arith, p_small s.set))) ◌-ℤ◌ (fits (omega (arith, small)))).back
    ∙ centre_high s.set c.args.x (omega (arith, s.of_set)) c.requires)
