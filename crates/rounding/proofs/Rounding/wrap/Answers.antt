use Rattle.std.proofs.Common.{arith}
use Rattle.sets.specs.Numbers.{p_of}
use Rattle.rounding.proofs.Digits.{wrap_low, wrap_high}
use Rattle.rounding.proofs.Rounding.wrap.Goals as goal

pub returns-then-x-self : goal.returns-then-x-self
returns-then-x-self c =
    let s = c.args.self in
    (wrap_low (p_of s.set) c.args.x (omega (arith, s.of_set)), omega (arith, s.of_set))

pub returns-else-x-self : goal.returns-else-x-self
returns-else-x-self c =
    let s = c.args.self in
    rw s.of_set.1 (wrap_high (p_of s.set) c.args.x (omega (arith, s.of_set)) c.requires, omega (arith, s.of_set))
