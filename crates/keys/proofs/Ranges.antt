-- What the tests of a key's lengths and ranges tell. Assumes nothing.
use mathlib.Core.Path.{◌≡◌}
use mathlib.Core.Bool.{true, ◌&&◌}
use mathlib.Core.List.{List}
use Prim.Native.Nat.{ℕ}
use borrow.Author.Tests.{eqb-true}
use lib.IntN.{ℤ}
use lib.ListN.{length}
use Rattle.laws.specs.Lists.{every}
use Rattle.laws.proofs.Chain.{and_left, and_right}
use Rattle.sets.specs.Numbers.{dimension}
use Rattle.vectors.specs.Vectors.{sized}
use Rattle.keys.specs.Key.{is_small, is_residue, in_range}

pub sized_is : {A : Type 0} (x : List A) → sized x ≡ true → length x ≡ dimension
sized_is x e = eqb-true (length x) dimension e

pub sized_three : {A B C : Type 0} (x : List A) (y : List B) (z : List C) → sized x && (sized y && sized z) ≡ true
    → (length x ≡ dimension) × (length y ≡ dimension) × (length z ≡ dimension)
sized_three x y z e =
    let r = and_right (sized x) _ e in
    (sized_is x (and_left (sized x) _ e), sized_is y (and_left (sized y) _ r), sized_is z (and_right (sized y) _ r))

pub sized_four : {A B C D : Type 0} (w : List A) (x : List B) (y : List C) (z : List D) → sized w && (sized x && (sized y && sized z)) ≡ true
    → (length w ≡ dimension) × (length x ≡ dimension) × (length y ≡ dimension) × (length z ≡ dimension)
sized_four w x y z e =
    let r = sized_three x y z (and_right (sized w) _ e) in
    (sized_is w (and_left (sized w) _ e), r.0, r.1, r.2)

module _ (f g : List ℤ) (a : List ℕ) (e : in_range f g a ≡ true) where
  pub f_small : every is_small f ≡ true
  unfolding in_range
  f_small = and_left (every is_small f) _ e

  pub g_small : every is_small g ≡ true
  unfolding in_range
  g_small = and_left (every is_small g) _ (and_right (every is_small f) _ e)

  pub a_residues : every is_residue a ≡ true
  unfolding in_range
  a_residues = and_right (every is_small g) _ (and_right (every is_small f) _ e)
