-- The inner product of z and v, where z = y + v or y - v: that of y and v, and the squared length of v added or taken off. Assumes nothing.
use mathlib.Core.Path.{◌≡◌, refl, sym, ◌∙◌, ap, ap₂}
use mathlib.Core.Bool.{Bool, true, false, not}
use mathlib.Core.List.{List, [], ◌∷◌}
use native.Mathlib.Nat.{suc_inj, suc-ne-zero}
use lib.IntN.{ℤ, pos, ◌+ℤ◌, ◌-ℤ◌, ◌*ℤ◌}
use lib.ListN.{length}
use Rattle.laws.specs.Lists.{zip_with}
use Rattle.laws.proofs.Solver.{v as var, ◌⊕◌, ◌⊖◌, ◌⊗◌, ring}
use Rattle.vectors.specs.Vectors.{squares, inner}
use Rattle.vectors.specs.Pairs.{Pair, squares_pair, inner_pair}
use Rattle.vectors.proofs.Greedy.{square_is}
use Rattle.choices.specs.Choices.{added_if}
use Rattle.masking.specs.Masking.{masked}

-- ---- once for both operations
module _ (o : ℤ → ℤ → ℤ) (none : o (pos 0) (pos 0) ≡ pos 0) (step : (a b r s : ℤ) → o a b *ℤ b +ℤ o r s ≡ o (a *ℤ b +ℤ r) (b *ℤ b +ℤ s)) where
  inner_by : (y v : List ℤ) → length y ≡ length v → inner (zip_with o y v) v ≡ o (inner y v) (pos (squares v))
  unfolding inner squares zip_with
  inner_by [] [] e = sym none
  inner_by [] (b ∷ v) e = absurd (suc-ne-zero (length v) (sym e))
  inner_by (a ∷ y) [] e = absurd (suc-ne-zero (length y) e)
  inner_by (a ∷ y) (b ∷ v) e =
      ap (λ (z : ℤ). o a b *ℤ b +ℤ z) (inner_by y v (suc_inj e)) ∙ step a b (inner y v) (pos (squares v))
      ∙ ap (λ (z : ℤ). o (a *ℤ b +ℤ inner y v) (z +ℤ pos (squares v))) (sym (square_is b))

added : (a b r s : ℤ) → (a +ℤ b) *ℤ b +ℤ (r +ℤ s) ≡ (a *ℤ b +ℤ r) +ℤ (b *ℤ b +ℤ s)
added a b r s = ring (a ∷ b ∷ r ∷ s ∷ []) ((var 0 ⊕ var 1) ⊗ var 1 ⊕ (var 2 ⊕ var 3)) ((var 0 ⊗ var 1 ⊕ var 2) ⊕ (var 1 ⊗ var 1 ⊕ var 3)) refl

subtracted : (a b r s : ℤ) → (a -ℤ b) *ℤ b +ℤ (r -ℤ s) ≡ (a *ℤ b +ℤ r) -ℤ (b *ℤ b +ℤ s)
subtracted a b r s = ring (a ∷ b ∷ r ∷ s ∷ []) ((var 0 ⊖ var 1) ⊗ var 1 ⊕ (var 2 ⊖ var 3)) ((var 0 ⊗ var 1 ⊕ var 2) ⊖ (var 1 ⊗ var 1 ⊕ var 3)) refl

inner_added_if : (b : Bool) (y v : List ℤ) → length y ≡ length v → inner (zip_with (added_if b) y v) v ≡ added_if b (inner y v) (pos (squares v))
inner_added_if true = inner_by ◌+ℤ◌ refl added
inner_added_if false = inner_by ◌-ℤ◌ refl subtracted

both : (b : Bool) (i j m n : ℤ) → added_if b i m +ℤ added_if b j n ≡ added_if b (i +ℤ j) (m +ℤ n)
both true i j m n = ring (i ∷ j ∷ m ∷ n ∷ []) ((var 0 ⊕ var 2) ⊕ (var 1 ⊕ var 3)) ((var 0 ⊕ var 1) ⊕ (var 2 ⊕ var 3)) refl
both false i j m n = ring (i ∷ j ∷ m ∷ n ∷ []) ((var 0 ⊖ var 2) ⊕ (var 1 ⊖ var 3)) ((var 0 ⊕ var 1) ⊖ (var 2 ⊕ var 3)) refl

-- <z, v> = <y, v> plus or minus |v|²
pub inner_masked : (bit : Bool) (y v : Pair) → length y.first ≡ length v.first → length y.second ≡ length v.second
    → inner_pair (masked bit y v) v ≡ added_if (not bit) (inner_pair y v) (pos (squares_pair v))
unfolding masked
inner_masked bit y v e f =
    ap₂ ◌+ℤ◌ (inner_added_if (not bit) y.first v.first e) (inner_added_if (not bit) y.second v.second f)
    ∙ both (not bit) (inner y.first v.first) (inner y.second v.second) (pos (squares v.first)) (pos (squares v.second))
