-- What a test of each length says of some lengths, and a test of every entry as a fold has it. Assumes nothing.
use mathlib.Core.Path.{◌≡◌, refl}
use mathlib.Core.Bool.{Bool, true, false, ◌&&◌, and-true}
use mathlib.Core.List.{List, [], ◌∷◌}
use lib.ListN.{length}
use Rattle.std.specs.Prelude.{fold}
use Rattle.std.specs.List.{list_all}
use Rattle.laws.specs.Lists.{every}
use Rattle.vectors.specs.Vectors.{is_dimension, sized}

-- ---- lengths: r is what `all_sized` answers of those of some vectors
module _ {r : Bool} {A B C : Type 0} where
  pub three_sized : (x : List A) (y : List B) (z : List C) → r ≡ list_all is_dimension (length x ∷ length y ∷ length z ∷ []) → r ≡ sized x && (sized y && sized z)
  three_sized x y z e = rw (and-true (sized z)) at e

  module _ {D : Type 0} where
    pub four_sized : (w : List A) (x : List B) (y : List C) (z : List D) → r ≡ list_all is_dimension (length w ∷ length x ∷ length y ∷ length z ∷ [])
        → r ≡ sized w && (sized x && (sized y && sized z))
    four_sized w x y z e = rw (and-true (sized z)) at e

    pub five_sized : {E : Type 0} (v : List A) (w : List B) (x : List C) (y : List D) (z : List E)
        → r ≡ list_all is_dimension (length v ∷ length w ∷ length x ∷ length y ∷ length z ∷ []) → r ≡ sized v && (sized w && (sized x && (sized y && sized z)))
    five_sized v w x y z e = rw (and-true (sized z)) at e

-- ---- folds
module _ {A : Type 0} (test : A → Bool) where
  every_from : (all : Bool) (xs : List A) → fold (λ b x. b && test x) all xs ≡ all && every test xs
  unfolding every
  every_from true [] = refl
  every_from false [] = refl
  every_from true (x ∷ xs) = every_from (test x) xs
  every_from false (x ∷ xs) = every_from false xs

  pub every_is_fold : (xs : List A) → fold (λ b x. b && test x) true xs ≡ every test xs
  every_is_fold xs = every_from true xs
