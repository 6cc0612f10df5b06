-- A key that passes the key test, and what it tells of s1 = f and s2 = 2g + 1. Assumes nothing.
use mathlib.Core.Path.{◌≡◌, refl, sym, ap, ◌∙◌}
use mathlib.Core.Bool.{true, ◌&&◌}
use mathlib.Core.List.{List, [], ◌∷◌}
use Prim.Native.Nat.{ℕ, zero, suc, ◌≤◌}
use native.Mathlib.Nat.{suc-ne-zero}
use borrow.Author.Tests.{leb-true}
use lib.Dec.{leb}
use lib.IntN.{ℤ, pos}
use lib.ListN.{length, get_or, replicate, get_or-map}
use Rattle.laws.proofs.Congruence.{Cong}
use Rattle.laws.proofs.Loops.{same_is}
use Rattle.laws.proofs.Solver.{v, k, ◌⊕◌, ◌⊗◌, ring}
use Rattle.sets.specs.declared.Set.{Set}
use Rattle.std.specs.Prelude.{Some, Err}
use Rattle.sets.specs.Numbers.{dimension, key_limit_of, asked_of}
use Rattle.answers.specs.declared.Refusal.TheVariants.{UnknownSet, WrongLength, CoefficientOutside, RelationBroken, KeyTooLong, CountsWrong}
use Rattle.answers.specs.Outcomes.{Done, number_of, is_done, for_set}
use Rattle.answers.proofs.Calls.{zero_is}
use Rattle.polynomials.specs.Product.{product, one}
use Rattle.polynomials.proofs.Carries.{Carries}
use Rattle.polynomials.proofs.Residues.{residues}
use Rattle.vectors.specs.Vectors.{sized}
use Rattle.keys.specs.Key.{in_range, second, relation, right_counts, proper_key, key_test_of, key_test}
use Rattle.keys.proofs.Ranges.{sized_three}
use Rattle.keys.proofs.Second.{double, length_second}
use Rattle.vectors.specs.Pairs.{pair, squares_pair}
use Rattle.choices.proofs.Pairs.{Sized}
use Rattle.signing.specs.Response.{Lent}
use Rattle.promises.proofs.Passed.{itself, must_passed, set_known}

-- ---- the tests of a key
module _ (s : Set) (f g : List ℤ) (a : List ℕ) (h : proper_key s f g a ≡ Done) where
  tests : (right_counts s f g ≡ true) × (leb (squares_pair (pair f (second g))) (key_limit_of s) ≡ true) × (relation a f (second g) ≡ true)
  unfolding proper_key
  tests =
      let first = must_passed itself (right_counts s f g) (Err CountsWrong) _ refl (ap is_done h) in
      let next = must_passed itself (leb (squares_pair (pair f (second g))) (key_limit_of s)) (Err KeyTooLong) _ refl first.1 in
      (first.0, next.0, (must_passed itself (relation a f (second g)) (Err RelationBroken) Done refl next.1).0)

  -- the counts are right
  pub key_counts : right_counts s f g ≡ true
  key_counts = tests.0

  -- the squared length is at most K
  pub key_short : squares_pair (pair f (second g)) ≤ key_limit_of s
  key_short = leb-true _ _ tests.1

  -- the relation holds, a s1 = s2 modulo q
  pub key_related : relation a f (second g) ≡ true
  key_related = tests.2

  pub key_carries : Carries a f (second g)
  key_carries = record { is = same_is (product a f) (residues (second g)) key_related }

-- what the key test has seen
pub record Tested (s : Set) (f g : List ℤ) (a : List ℕ) : Type 0 where
  pub long_f : length f ≡ dimension
  pub long_g : length g ≡ dimension
  pub long_a : length a ≡ dimension
  pub ranges : in_range f g a ≡ true
  pub proper : proper_key s f g a ≡ Done

-- a key that passes for a set number passes for the set asked for
pub key_tested_for : (set : ℕ) (s : Set) (f g : List ℤ) (a : List ℕ) → asked_of set ≡ Some s → key_test set f g a ≡ Done → key_test_of s f g a ≡ Done
unfolding key_test
key_tested_for set s f g a known h = ap (λ asked. for_set asked (Err UnknownSet) (λ m. key_test_of m f g a)) (sym known) ∙ h

pub key_tested : (s : Set) (f g : List ℤ) (a : List ℕ) → key_test_of s f g a ≡ Done → Tested s f g a
key_tested s f g a h =
    let first = must_passed itself (sized f && (sized g && sized a)) (Err WrongLength) _ refl (ap is_done h) in
    let next = must_passed itself (in_range f g a) (Err CoefficientOutside) (proper_key s f g a) refl first.1 in
    let long = sized_three f g a first.0 in
    record {
      long_f = long.0;
      long_g = long.1;
      long_a = long.2;
      ranges = next.0;
      proper = sym next.2 ∙ sym first.2 ∙ h;
    }

-- of what a signing call is lent
pub passing : (set : ℕ) (s : Set) (c : Lent) → asked_of set ≡ Some s → number_of (key_test set c.f c.g c.a) ≡ 0 → Tested s c.f c.g c.a
passing set s c known passes = key_tested s c.f c.g c.a (key_tested_for set s c.f c.g c.a known (zero_is _ passes))

pub key_tested_some : (set : ℕ) (f g : List ℤ) (a : List ℕ) → key_test set f g a ≡ Done → (s : Set) × (asked_of set ≡ Some s) × Tested s f g a
unfolding key_test
key_tested_some set f g a h =
    let known = set_known itself (asked_of set) (Err UnknownSet) (λ s. key_test_of s f g a) refl (ap is_done h) in
    (known.0, known.1, key_tested known.0 f g a (sym known.3 ∙ h))

-- ---- s1 and s2
module _ (f g : List ℤ) (lf : length f ≡ dimension) (lg : length g ≡ dimension) where
  -- both have 512 coefficients
  pub key_sized : Sized (pair f (second g))
  key_sized = record { first = lf; second = length_second g ∙ lg }

zero_at : (n i : ℕ) → get_or (replicate n (pos 0)) i (pos 0) ≡ pos 0
zero_at zero i = refl
zero_at (suc n) zero = refl
zero_at (suc n) (suc i) = zero_at n i

-- s2 = 1 modulo 2
pub second_parity : (g : List ℤ) → length g ≡ dimension → (i : ℕ) → Cong 2 (get_or (second g) i (pos 0)) (get_or one i (pos 0))
unfolding second one
second_parity [] lg i = absurd (suc-ne-zero 511 (sym lg))
second_parity (x ∷ g) lg zero = record { times = x; eq = ring (x ∷ []) (k (pos 2) ⊗ v 0 ⊕ k (pos 1)) (k (pos 1) ⊕ k (pos 2) ⊗ v 0) refl }
second_parity (x ∷ g) lg (suc i) =
    rw (get_or-map double g i (pos 0), zero_at 511 i)
    (record { times = get_or g i (pos 0); eq = ring (get_or g i (pos 0) ∷ []) (k (pos 2) ⊗ v 0) (k (pos 0) ⊕ k (pos 2) ⊗ v 0) refl })
