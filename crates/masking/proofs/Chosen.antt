-- v: how many places a list has, and what the sign choices of a key are bound by. Assumes nothing.
use mathlib.Core.Path.{◌≡◌, sym, subst}
use mathlib.Core.Bool.{true}
use mathlib.Core.List.{List}
use Prim.Native.Nat.{ℕ, ◌+◌, ◌*◌, ◌≤◌}
use native.Mathlib.Nat.{mul-le-mul_left}
use native.Mathlib.Omega.{arith}
use lib.IntN.{ℤ}
use lib.ListN.{length}
use Rattle.laws.specs.Lists.{every}
use Rattle.sets.specs.declared.Set.{Set}
use Rattle.sets.specs.Numbers.{dimension, list_limit, kappa_of, key_limit_of}
use Rattle.sets.proofs.Alike.{kappa_within}
use Rattle.vectors.specs.Vectors.{within, squares}
use Rattle.vectors.specs.Places.{proper_list}
use Rattle.vectors.specs.Pairs.{Pair, pair, squares_pair}
use Rattle.vectors.proofs.Ranges.{within_at}
use Rattle.vectors.proofs.Rising.{proper_count, proper_places}
use Rattle.choices.specs.Choices.{choices}
use Rattle.choices.proofs.Pairs.{Sized, Within}
use Rattle.choices.proofs.Bound.{choices_sized, choices_bound}
use Rattle.choices.proofs.Sums.{choices_within}

pub few_places : (s : Set) (l : List ℕ) → proper_list s l ≡ true → length l ≤ list_limit
few_places s l proper = omega (arith, proper_count s l proper, kappa_within s)

module _ (s : Set) (s1 s2 : List ℤ) (l : List ℕ) (l1 : length s1 ≡ dimension) (l2 : length s2 ≡ dimension) (proper : proper_list s l ≡ true)
    (v1 v2 : List ℤ) (e : pair v1 v2 ≡ choices (pair s1 s2) l) where
  key_sized : Sized (pair s1 s2)
  key_sized = record { first = l1; second = l2 }

  pub chosen_sized : Sized (pair v1 v2)
  chosen_sized = subst (λ (v : Pair). Sized v) (sym e) (choices_sized (pair s1 s2) key_sized l)

  pub chosen_short : squares s1 + squares s2 ≤ key_limit_of s → squares v1 + squares v2 ≤ kappa_of s * key_limit_of s
  chosen_short h =
      subst (λ (v : Pair). squares_pair v ≤ kappa_of s * key_limit_of s) (sym e)
      (omega (
        arith,
        rw (proper_count s l proper) at (choices_bound (pair s1 s2) key_sized l),
        mul-le-mul_left (kappa_of s) h,
      ))

  pub chosen_within : every (within 5) s1 ≡ true → every (within 5) s2 ≡ true → Within (kappa_of s * 5) (pair v1 v2)
  chosen_within w1 w2 =
      subst (λ (v : Pair). Within (kappa_of s * 5) v) (sym e)
      (rw (proper_count s l proper) at
      (choices_within (pair s1 s2) key_sized l (proper_places s l proper) 5 (record { first = within_at 5 s1 w1; second = within_at 5 s2 w2 })))
