use Rattle.std.proofs.Common.{◌≡◌, ℕ, ◌+◌, ◌-◌, ◌<◌, ◌≤◌, ℤ, pos, ◌-ℤ◌, w8, ap, ap₂, ◌∙◌, arith}
use lib.Dec.{lit<}
use Rattle.laws.specs.Integers.{residue}
use Rattle.laws.proofs.Congruence.{residue_lt}
use Rattle.laws.proofs.Machine.{given, element}
use Rattle.sets.specs.declared.Set.{Set}
use Rattle.sets.specs.Numbers.{twice_modulus, p_of}
use Rattle.sets.proofs.Alike.{p_small}
use Rattle.rounding.specs.Rounding.{upper, centred, dagger}
use Rattle.rounding.proofs.Laws.{upper_below}
use Rattle.rounding.proofs.Digits.{digits_are, centred_same, difference_wraps}
use Rattle.rounding.proofs.Rounding.dagger.Goals.{After-round-below}
use Rattle.rounding.proofs.Rounding.dagger.Goals as goal

pub round-below-requires : goal.round-below-requires
round-below-requires c = rw c.difference.ensures (residue_lt (lit< tt) _)

module _ (c : After-round-below) where
  abbrev s : Set
  s = c.args.self.set

  abbrev whole : ℕ
  whole = c.round-whole.result.digits

  whole_is : whole ≡ upper s c.args.u
  whole_is = digits_are c.round-whole.ensures

  abbrev below : ℕ
  below = c.round-below.result.digits

  abbrev reduced : ℕ
  reduced = residue twice_modulus (pos c.args.u -ℤ c.args.z)

  below_is : below ≡ upper s reduced
  below_is =
      digits_are c.round-below.ensures
      ∙ ap (upper s) (c.difference.ensures ∙ ap (λ (z : ℤ). residue twice_modulus (pos c.args.u -ℤ z)) (given c.ranges.z).back)

  sizes : (whole < p_of s) × (below < p_of s) × (c.args.self.p ≡ p_of s) × (p_of s ≤ 96)
  sizes =
      (omega (arith, whole_is, upper_below s c.args.u), omega (arith, below_is, upper_below s reduced), c.args.self.of_set.1, p_small s)

pub overflow_add-whole : goal.overflow_add-whole
overflow_add-whole c = omega (arith, sizes (goal.at.overflow_add-whole c).After-round-below)

pub overflow_sub-whole : goal.overflow_sub-whole
overflow_sub-whole c = omega (arith, sizes (goal.at.overflow_sub-whole c).After-round-below)

pub wrap-requires : goal.wrap-requires
wrap-requires c = omega (arith, sizes (goal.at.wrap-requires c).After-round-below)

pub returns : goal.returns
unfolding dagger
returns c =
    let b = (goal.at.returns c).After-round-below in
    let moved : c.wrap.result ≡ residue (p_of (s b)) (pos (whole b + p_of (s b) - below b)) =
    c.wrap.ensures.0 ∙ ap (λ (p : ℕ). residue (p_of (s b)) (pos (whole b + p - below b))) c.args.self.of_set.1 in
    (element w8 c.centre.result c.centre.type_inv).back ∙ c.centre.ensures
    ∙ ap (λ (n : ℕ). centred (s b) (pos n)) moved
    ∙ centred_same (s b) _ _ (difference_wraps (s b) (whole b) (below b) (omega (arith, sizes b)))
    ∙ ap₂ (λ (x y : ℕ). centred (s b) (pos x -ℤ pos y)) (whole_is b) (below_is b)
