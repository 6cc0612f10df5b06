-- z, the numbers of the trials, and z2 dagger (01, "Response" and "The draw").
use Rattle.std.specs.Prelude.{Bool, not, List, ℕ, ◌*◌, ◌-◌, ℤ, nat_abs}
use Rattle.laws.specs.Lists.{zip_with}
use Rattle.sets.specs.declared.Set.{Set}
use Rattle.sets.specs.Numbers.{kappa_of, key_limit_of}
use Rattle.rounding.specs.Rounding.{dagger}
use Rattle.vectors.specs.Pairs.{Pair, pair, squares_pair, inner_pair}
use Rattle.choices.specs.Choices.{added_if}

-- z = y + v for sign bit 0, y - v for sign bit 1, over whole numbers
unfoldable pub masked : Bool → Pair → Pair → Pair
masked bit y v = pair (zip_with (added_if (not bit)) y.first v.first) (zip_with (added_if (not bit)) y.second v.second)

-- kappa K minus the squared length of v
abbrev pub first_trial : Set → Pair → ℕ
first_trial s v = kappa_of s * key_limit_of s - squares_pair v

-- twice the absolute value of the inner product of z and v
abbrev pub second_trial : Pair → Pair → ℕ
second_trial z v = 2 * nat_abs (inner_pair z v)

-- z2 dagger: the upper digits of u minus the upper digits of (u - z2 modulo 24578), centred modulo p
unfoldable pub daggers : Set → List ℕ → List ℤ → List ℤ
daggers s u z2 = zip_with (dagger s) u z2
