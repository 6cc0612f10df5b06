-- Linear operations on two whole numbers: sums, differences and the step of a product by rows are alike. Assumes nothing.
use mathlib.Core.Path.{◌≡◌, refl, sym, ap, ap₂, ◌∙◌}
use mathlib.Core.List.{[], ◌∷◌}
use Prim.Native.Nat.{ℕ}
use lib.IntN.{ℤ, pos, negsuc, neg_ℤ, ◌+ℤ◌, ◌-ℤ◌, ◌*ℤ◌}
use Rattle.laws.proofs.Solver.{v, k, ◌⊕◌, ◌⊖◌, ◌⊗◌, neg, ring}
use Rattle.laws.proofs.Congruence.{Cong, cong_eq, cong_refl, cong_trans, cong_add, cong_mul}

-- o x y is a multiple of x and a multiple of y
pub record Linear (o : ℤ → ℤ → ℤ) : Type 0 where
  pub left : ℤ
  pub right : ℤ
  pub is : (x y : ℤ) → o x y ≡ left *ℤ x +ℤ right *ℤ y

-- a sum
pub plus : Linear ◌+ℤ◌
plus = record { left = pos 1; right = pos 1; is = λ x y. ring (x ∷ y ∷ []) (v 0 ⊕ v 1) (k (pos 1) ⊗ v 0 ⊕ k (pos 1) ⊗ v 1) refl }

-- a difference
pub minus : Linear ◌-ℤ◌
minus = record { left = pos 1; right = negsuc 0; is = λ x y. ring (x ∷ y ∷ []) (v 0 ⊖ v 1) (k (pos 1) ⊗ v 0 ⊕ k (negsuc 0) ⊗ v 1) refl }

-- what a row of a product adds: a y + z
abbrev pub row : ℤ → ℤ → ℤ → ℤ
row a y z = a *ℤ y +ℤ z

-- it is linear
pub row_linear : (a : ℤ) → Linear (row a)
row_linear a = record { left = a; right = pos 1; is = λ x y. ring (a ∷ x ∷ y ∷ []) (v 0 ⊗ v 1 ⊕ v 2) (v 0 ⊗ v 1 ⊕ k (pos 1) ⊗ v 2) refl }

module _ {o : ℤ → ℤ → ℤ} (l : Linear o) where
  -- zeros give zero
  pub linear_zero : o (pos 0) (pos 0) ≡ pos 0
  linear_zero = l.is (pos 0) (pos 0) ∙ ring (l.left ∷ l.right ∷ []) (v 0 ⊗ k (pos 0) ⊕ v 1 ⊗ k (pos 0)) (k (pos 0)) refl

  -- a turned sign goes inside
  pub linear_neg : (x y : ℤ) → neg_ℤ (o x y) ≡ o (neg_ℤ x) (neg_ℤ y)
  linear_neg x y =
      ap neg_ℤ (l.is x y) ∙ ring (l.left ∷ l.right ∷ x ∷ y ∷ []) (neg (v 0 ⊗ v 2 ⊕ v 1 ⊗ v 3)) (v 0 ⊗ neg (v 2) ⊕ v 1 ⊗ neg (v 3)) refl
      ∙ sym (l.is (neg_ℤ x) (neg_ℤ y))

  -- congruent operands give congruent results
  pub linear_cong : {m : ℕ} {x y x' y' : ℤ} → Cong m x x' → Cong m y y' → Cong m (o x y) (o x' y')
  linear_cong {m} {x} {y} {x'} {y'} c d =
      cong_trans (cong_eq (l.is x y)) (cong_trans (cong_add (cong_mul (cong_refl l.left) c) (cong_mul (cong_refl l.right) d)) (cong_eq (sym (l.is x' y'))))

  -- two linear operations commute
  pub linear_medial : {p : ℤ → ℤ → ℤ} → Linear p → (w x y z : ℤ) → o (p w x) (p y z) ≡ p (o w y) (o x z)
  linear_medial {p} r w x y z =
      ap₂ o (r.is w x) (r.is y z) ∙ l.is _ _
      ∙ ring (l.left ∷ l.right ∷ r.left ∷ r.right ∷ w ∷ x ∷ y ∷ z ∷ [])
      (v 0 ⊗ (v 2 ⊗ v 4 ⊕ v 3 ⊗ v 5) ⊕ v 1 ⊗ (v 2 ⊗ v 6 ⊕ v 3 ⊗ v 7)) (v 2 ⊗ (v 0 ⊗ v 4 ⊕ v 1 ⊗ v 6) ⊕ v 3 ⊗ (v 0 ⊗ v 5 ⊕ v 1 ⊗ v 7)) refl
      ∙ sym (ap₂ p (l.is w y) (l.is x z) ∙ r.is _ _)
