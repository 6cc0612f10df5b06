use Rattle.std.proofs.Common.{◌≡◌, ℕ, ◌+◌, ◌<◌, ◌≤◌, ℤ, pos, ◌+ℤ◌, ap, ap₂, ◌∙◌, arith}
use Rattle.laws.specs.Integers.{residue}
use Rattle.laws.proofs.Machine.{given}
use Rattle.sets.specs.Numbers.{p_of}
use Rattle.sets.proofs.Alike.{p_small}
use Rattle.rounding.specs.Rounding.{upper, restored}
use Rattle.rounding.proofs.Laws.{upper_below}
use Rattle.rounding.proofs.Digits.{digits_are, sum_wraps}
use Rattle.rounding.proofs.Rounding.restored.Goals.{After-round}
use Rattle.rounding.proofs.Rounding.restored.Goals as goal

sizes : (c : After-round) → (c.round.result.digits < p_of c.args.self.set) × (c.wrap-moved.result < p_of c.args.self.set) × (p_of c.args.self.set ≤ 96)
sizes c =
    let s = c.args.self.set in
    (omega (arith, digits_are c.round.ensures, upper_below s c.args.w), c.wrap-moved.ensures.1, p_small s)

pub overflow_add-round : goal.overflow_add-round
overflow_add-round c = omega (arith, sizes (goal.at.overflow_add-round c).After-round)

pub wrap-requires : goal.wrap-requires
wrap-requires c = omega (arith, sizes (goal.at.wrap-requires c).After-round)

pub returns : goal.returns
unfolding restored
returns c =
    let a = c.args in
    let s = a.self.set in
    let up : pos c.raise.result ≡ a.z +ℤ pos (p_of s) = c.raise.ensures.0 ∙ ap (λ (z : ℤ). z +ℤ pos (p_of s)) (given c.ranges.z).back in
    c.wrap.ensures.0
    ∙ ap₂ (λ (x y : ℕ). residue (p_of s) (pos (x + y))) (digits_are c.round.ensures) c.wrap-moved.ensures.0
    ∙ sum_wraps s (upper s a.w) c.raise.result a.z up
