-- What holds of every set alike: the few laws of d, p, kappa and K that everything else is proved from.
use mathlib.Core.Path.{◌≡◌, refl, ap, subst, ◌∙◌}
use mathlib.Core.Bool.{Bool, true, ◌&&◌}
use mathlib.Core.List.{List, [], ◌∷◌, foldr}
use Prim.Native.Nat.{ℕ, ◌+◌, ◌*◌, ◌/◌, ◌^◌, ◌<◌, ◌≤◌}
use native.Mathlib.Omega.{arith}
use lib.Dec.{eqb, leb, ltb, eqb→eq}
use borrow.Author.Tests.{eqb-true, leb-true, ltb-true, ne_eqb}
use Rattle.laws.proofs.Bounds.{cond_ind}
use Rattle.laws.proofs.Chain.{and_left, and_right}
use Rattle.sets.specs.declared.Set.{Set}
use Rattle.sets.specs.declared.Set.TheVariants.{I, II, III, IV, «V», VI, VII, VIII}
use Rattle.std.specs.Prelude.{Some}
use Rattle.sets.specs.Numbers.{dimension, twice_modulus, mask_limit, list_limit, all, Largest, kappa_of, d_of, p_of, largest_of, bound_of, bound_squared_of, key_limit_of, ones_of, twos_of, coefficient_limit_of, set_number_of, last_number, numbered, named_of, asked_of, default_one}

-- ---- all sets

-- a set's number stands for the set: so each is among all of them, and nothing else goes by cases
pub named_back : (s : Set) → named_of (set_number_of s) ≡ Some s
unfolding named_of numbered
named_back s = elim s as (λ k. named_of (set_number_of k) ≡ Some k) [ I ↦ refl | II ↦ refl | III ↦ refl | IV ↦ refl | «V» ↦ refl | VI ↦ refl | VII ↦ refl | VIII ↦ refl ]

-- whether a test holds of all of some sets
abbrev throughout : List Set → (Set → Bool) → Bool
throughout sets test = foldr (λ s. ◌&&◌ (test s)) true sets

-- the set among some that has a number: the number is its own, and what holds of all of them holds of it
found : (s : Set) (n : ℕ) (test : Set → Bool) (sets : List Set) → numbered n sets ≡ Some s → (n ≡ set_number_of s) × (throughout sets test ≡ true → test s ≡ true)
unfolding numbered
found s n test [] e = let z : ◌≡◌ {A = ℕ} 0 1 = cc in absurd (omega (arith, z))
found s n test (s' ∷ rest) e =
    cond_ind (eqb n (set_number_of s')) (Some s') (numbered n rest) (λ a. a ≡ Some s → (n ≡ set_number_of s) × (throughout (s' ∷ rest) test ≡ true → test s ≡ true))
    (λ t k. let same : s' ≡ s = cc in (eqb→eq n (set_number_of s') t ∙ ap set_number_of same, λ h. subst (λ x. test x ≡ true) same (and_left (test s') _ h)))
    (λ t k. let later = found s n test rest k in (later.0, λ h. later.1 (and_right (test s') _ h)))
    e

pub named_is : (s : Set) (n : ℕ) → named_of n ≡ Some s → n ≡ set_number_of s
unfolding named_of
named_is s n e = (found s n (λ _. true) all e).0

-- a test that the checker computes of all sets holds of each
abbrev pub computed : (Set → Bool) → Bool
computed = throughout all

pub of_all : (test : Set → Bool) → computed test ≡ true → (s : Set) → test s ≡ true
unfolding named_of
of_all test e s = (found s (set_number_of s) test all (named_back s)).1 e

module _ (m n : Set → ℕ) where
  equal : computed (λ s. eqb (m s) (n s)) ≡ true → (s : Set) → m s ≡ n s
  equal e s = eqb-true (m s) (n s) (of_all (λ t. eqb (m t) (n t)) e s)

  at_most : computed (λ s. leb (m s) (n s)) ≡ true → (s : Set) → m s ≤ n s
  at_most e s = leb-true (m s) (n s) (of_all (λ t. leb (m t) (n t)) e s)

  below : computed (λ s. ltb (m s) (n s)) ≡ true → (s : Set) → m s < n s
  below e s = ltb-true (m s) (n s) (of_all (λ t. ltb (m t) (n t)) e s)

-- ---- the numbers of each

pub p_is_quotient : (s : Set) → p_of s ≡ twice_modulus / 2 ^ d_of s
p_is_quotient = equal _ _ refl

-- p 2^d is 2q - 2, and not 2q
pub spread : (s : Set) → p_of s * 2 ^ d_of s + 2 ≡ twice_modulus
spread = equal _ _ refl

pub step_small : (s : Set) → 2 ^ d_of s ≤ 1024
step_small = at_most _ _ refl

pub step_at_least_256 : (s : Set) → 256 ≤ 2 ^ d_of s
step_at_least_256 = at_most _ _ refl

-- the square of a step, as the length rule's sum has it
pub step_squared : (s : Set) → 2 ^ d_of s * 2 ^ d_of s ≡ 4 ^ d_of s
step_squared = equal _ _ refl

pub p_even : (s : Set) → p_of s ≡ p_of s / 2 + p_of s / 2
p_even = equal _ _ refl

pub p_positive : (s : Set) → 0 < p_of s
p_positive = below _ _ refl

-- a number modulo p, and a centred one, fit a byte
pub p_small : (s : Set) → p_of s ≤ 96
p_small = at_most _ _ refl

pub d_at_least_8 : (s : Set) → 8 ≤ d_of s
d_at_least_8 = at_most _ _ refl

pub d_small : (s : Set) → d_of s ≤ 10
d_small = at_most _ _ refl

pub largest_small : (s : Set) → largest_of s < 2 ^ 15
largest_small = below _ _ refl

-- so that an entry of z1 that the length rule passes has at most 13 binary digits, its sign's included, and one of z2 dagger at most 4 (02, C-11)
pub largest_below_4096 : (s : Set) → largest_of s < 2 ^ 12
largest_below_4096 = below _ _ refl

pub largest_dagger : (s : Set) → largest_of s < 2 ^ 3 * 2 ^ d_of s
largest_dagger = below _ _ refl

-- so that a z2 dagger that the length rule passes is below p
pub largest_below_spread : (s : Set) → largest_of s < p_of s * 2 ^ d_of s
largest_below_spread = below _ _ refl

pub bound_squared : (s : Set) → bound_squared_of s ≡ bound_of s * bound_of s
bound_squared = equal _ _ refl

pub kappa_within : (s : Set) → kappa_of s ≤ list_limit
kappa_within = at_most _ _ refl

pub list_limit_lem : Largest kappa_of list_limit
list_limit_lem = (kappa_within, (VIII, refl))

-- K is what the counts come to at most: d1 + 4 d2 for f, four times that for 2g, and what the 1 at place 0 adds to the largest coefficient there
pub key_limit_is : (s : Set) → key_limit_of s ≡ 5 * (ones_of s + 4 * twos_of s) + (4 * coefficient_limit_of s + 1)
key_limit_is = equal _ _ refl

pub counts_fit : (s : Set) → ones_of s + twos_of s ≤ dimension
counts_fit = at_most _ _ refl

-- the first trial's number has no place above 30
pub first_trial_lem : (s : Set) → kappa_of s * key_limit_of s < 2 ^ 31
first_trial_lem = below _ _ refl

-- nor has the second's: a coefficient of z is at most a mask's and kappa columns' of at most 5, and the absolute values of v sum to at most kappa K
pub second_trial_lem : (s : Set) → 2 * ((mask_limit + 5 * kappa_of s) * (kappa_of s * key_limit_of s)) < 2 ^ 31
second_trial_lem = below _ _ refl

-- ---- numbers for sets

pub number_small : (s : Set) → set_number_of s < 256
number_small = below _ _ refl

pub number_within : (s : Set) → set_number_of s ≤ last_number
number_within = at_most _ _ refl

number_positive : (s : Set) → 0 < set_number_of s
number_positive = below _ _ refl

pub asked_named : (n : ℕ) → (n ≡ 0 → ⊥) → asked_of n ≡ named_of n
unfolding asked_of
asked_named n h = rw (ne_eqb n 0 h)

pub asked_back : (s : Set) → asked_of (set_number_of s) ≡ Some s
asked_back s = asked_named (set_number_of s) (λ e. omega (arith, number_positive s, e)) ∙ named_back s

-- 0 asks for set 4
pub asked_zero : asked_of 0 ≡ Some IV
unfolding asked_of
asked_zero = refl

-- with the old default 0 is 1, and any other number itself
pub default_zero : default_one 0 ≡ 1
unfolding default_one
default_zero = refl

pub default_other : (n : ℕ) → (n ≡ 0 → ⊥) → default_one n ≡ n
unfolding default_one
default_other n h = rw (ne_eqb n 0 h)
