-- What the tests of both calls tell. Assumes nothing.
use mathlib.Core.Path.{◌≡◌, refl, sym, ap, ◌∙◌}
use mathlib.Core.Bool.{Bool, true, ◌&&◌}
use mathlib.Core.List.{List, [], ◌∷◌}
use Prim.Native.Nat.{ℕ}
use lib.IntN.{ℤ}
use lib.ListN.{length}
use Rattle.std.specs.List.{list_all}
use Rattle.laws.specs.Lists.{every}
use Rattle.laws.specs.Refusals.{must}
use Rattle.laws.proofs.Chain.{and_left, and_right}
use Rattle.sets.specs.Numbers.{dimension}
use Rattle.answers.specs.Outcomes.{Outcome, Done, is_done}
use Rattle.std.specs.Prelude.{Err}
use Rattle.answers.specs.declared.Refusal.TheVariants.{WrongLength, CoefficientOutside, MaskOutside}
use Rattle.answers.proofs.Calls.{done_test}
use Rattle.vectors.specs.Vectors.{is_dimension, sized}
use Rattle.vectors.proofs.Tests.{four_sized, five_sized}
use Rattle.keys.specs.Key.{is_residue}
use Rattle.keys.proofs.Ranges.{sized_is, sized_four}
use Rattle.commitment.specs.Commitment.{are_masks, tested}

-- what is done has passed the first test
pub tested_long : (long : Bool) (a : List ℕ) (y1 y2 : List ℤ) → is_done (tested long a y1 y2) ≡ true → long ≡ true
unfolding tested
tested_long long a y1 y2 e =
    done_test (Err WrongLength) (must (every is_residue a) (Err CoefficientOutside) (must (are_masks y1 y2) (Err MaskOutside) Done)) refl long e

pub sized_five : {A B C D E : Type 0} (v : List A) (w : List B) (x : List C) (y : List D) (z : List E)
    → sized v && (sized w && (sized x && (sized y && sized z))) ≡ true
    → (length v ≡ dimension) × (length w ≡ dimension) × (length x ≡ dimension) × (length y ≡ dimension) × (length z ≡ dimension)
sized_five v w x y z e =
    let r = sized_four w x y z (and_right (sized v) _ e) in
    (sized_is v (and_left (sized v) _ e), r.0, r.1, r.2, r.3)

-- a call whose tests answered o, and which the code found done: each of its vectors has 512 entries
module _ (a : List ℕ) (y1 y2 : List ℤ) (out : List ℕ) {o : Outcome} where
  pub four_long : o ≡ tested (list_all is_dimension (length a ∷ length y1 ∷ length y2 ∷ length out ∷ [])) a y1 y2 → o ≡ Done
      → (length a ≡ dimension) × (length y1 ≡ dimension) × (length y2 ≡ dimension) × (length out ≡ dimension)
  four_long e t = sized_four a y1 y2 out (sym (four_sized a y1 y2 out refl) ∙ tested_long _ a y1 y2 (ap is_done (sym e ∙ t)))

  pub five_long : (rests : List ℤ) → o ≡ tested (list_all is_dimension (length a ∷ length y1 ∷ length y2 ∷ length out ∷ length rests ∷ [])) a y1 y2 → o ≡ Done
      → (length a ≡ dimension) × (length y1 ≡ dimension) × (length y2 ≡ dimension) × (length out ≡ dimension) × (length rests ≡ dimension)
  five_long rests e t = sized_five a y1 y2 out rests (sym (five_sized a y1 y2 out rests refl) ∙ tested_long _ a y1 y2 (ap is_done (sym e ∙ t)))
