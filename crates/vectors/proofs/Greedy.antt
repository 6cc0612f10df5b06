-- A step of the sign choices: a column c is subtracted from x where their inner product is zero or more, and added where it is negative, so that the squared
-- length grows by at most the column's. Once for both operations: o a b is a + t b, where t is 1 or - 1. Assumes nothing.
use mathlib.Core.Path.{◌≡◌, refl, sym, ◌∙◌, ap₂}
use mathlib.Core.List.{List, [], ◌∷◌}
use Prim.Native.Nat.{◌+◌, ◌*◌, ◌≤◌}
use native.Mathlib.Nat.{suc_inj, suc-ne-zero}
use native.Mathlib.Omega.{arith}
use lib.IntN.{ℤ, pos, negsuc, nat_abs, ◌+ℤ◌, ◌-ℤ◌, ◌*ℤ◌, +ℤ_idr}
use lib.ListN.{length}
use lib.Signed.{◌≤ℤ◌, ◌<ℤ◌}
use Rattle.laws.specs.Lists.{zip_with}
use Rattle.laws.proofs.Linear.{le_in, lt_in, eq_in, le_out, sum, multiple, opposite}
use Rattle.laws.proofs.Products.{neg_as, one_*ℤ}
use Rattle.laws.proofs.Solver.{v, k, ◌⊕◌, ◌⊖◌, ◌⊗◌, ring}
use Rattle.vectors.specs.Vectors.{squares, inner}

pub square_is : (a : ℤ) → pos (nat_abs a * nat_abs a) ≡ a *ℤ a
square_is (pos n) = refl
square_is (negsuc n) = refl

-- a² + b² and 2 t a b more, each with what the rest of the vectors adds
regroup : (a b t r s d : ℤ) → (a *ℤ a +ℤ b *ℤ b +ℤ pos 2 *ℤ (t *ℤ (a *ℤ b))) +ℤ (r +ℤ s +ℤ pos 2 *ℤ (t *ℤ d))
    ≡ (a *ℤ a +ℤ r) +ℤ (b *ℤ b +ℤ s) +ℤ pos 2 *ℤ (t *ℤ (a *ℤ b +ℤ d))
regroup a b t r s d =
    ring (a ∷ b ∷ t ∷ r ∷ s ∷ d ∷ [])
    ((v 0 ⊗ v 0 ⊕ v 1 ⊗ v 1 ⊕ k (pos 2) ⊗ (v 2 ⊗ (v 0 ⊗ v 1))) ⊕ (v 3 ⊕ v 4 ⊕ k (pos 2) ⊗ (v 2 ⊗ v 5)))
    ((v 0 ⊗ v 0 ⊕ v 3) ⊕ (v 1 ⊗ v 1 ⊕ v 4) ⊕ k (pos 2) ⊗ (v 2 ⊗ (v 0 ⊗ v 1 ⊕ v 5)))
    refl

join : (x₁ c₁ x₂ c₂ t d₁ d₂ : ℤ) → (x₁ +ℤ c₁ +ℤ pos 2 *ℤ (t *ℤ d₁)) +ℤ (x₂ +ℤ c₂ +ℤ pos 2 *ℤ (t *ℤ d₂))
    ≡ (x₁ +ℤ x₂ +ℤ c₁ +ℤ c₂) +ℤ pos 2 *ℤ (t *ℤ (d₁ +ℤ d₂))
join x₁ c₁ x₂ c₂ t d₁ d₂ =
    ring (x₁ ∷ c₁ ∷ x₂ ∷ c₂ ∷ t ∷ d₁ ∷ d₂ ∷ [])
    ((v 0 ⊕ v 1 ⊕ k (pos 2) ⊗ (v 4 ⊗ v 5)) ⊕ (v 2 ⊕ v 3 ⊕ k (pos 2) ⊗ (v 4 ⊗ v 6)))
    ((v 0 ⊕ v 2 ⊕ v 1 ⊕ v 3) ⊕ k (pos 2) ⊗ (v 4 ⊗ (v 5 ⊕ v 6)))
    refl

module _ (o : ℤ → ℤ → ℤ) (t : ℤ) (square : (a b : ℤ) → o a b *ℤ o a b ≡ a *ℤ a +ℤ b *ℤ b +ℤ pos 2 *ℤ (t *ℤ (a *ℤ b))) where
  step_squares : (x c : List ℤ) → length x ≡ length c → pos (squares (zip_with o x c)) ≡ pos (squares x) +ℤ pos (squares c) +ℤ pos 2 *ℤ (t *ℤ inner x c)
  unfolding squares inner zip_with
  step_squares [] [] e = ring (t ∷ []) (k (pos 0)) (k (pos 0) ⊕ k (pos 0) ⊕ k (pos 2) ⊗ (v 0 ⊗ k (pos 0))) refl
  step_squares [] (b ∷ c) e = absurd (suc-ne-zero (length c) (sym e))
  step_squares (a ∷ x) [] e = absurd (suc-ne-zero (length x) e)
  step_squares (a ∷ x) (b ∷ c) e =
      ap₂ ◌+ℤ◌ (square_is (o a b) ∙ square a b) (step_squares x c (suc_inj e)) ∙ regroup a b t (pos (squares x)) (pos (squares c)) (inner x c)
      ∙ ap₂ (λ (p q : ℤ). (p +ℤ pos (squares x)) +ℤ (q +ℤ pos (squares c)) +ℤ pos 2 *ℤ (t *ℤ (a *ℤ b +ℤ inner x c))) (sym (square_is a)) (sym (square_is b))

  -- for two pairs of vectors at once, by the sum of their inner products
  step_bound : (x₁ c₁ x₂ c₂ : List ℤ) → length x₁ ≡ length c₁ → length x₂ ≡ length c₂ → (t *ℤ (inner x₁ c₁ +ℤ inner x₂ c₂)) ≤ℤ pos 0
      → squares (zip_with o x₁ c₁) + squares (zip_with o x₂ c₂) ≤ squares x₁ + squares x₂ + squares c₁ + squares c₂
  step_bound x₁ c₁ x₂ c₂ e₁ e₂ h =
      let d = t *ℤ (inner x₁ c₁ +ℤ inner x₂ c₂) in
      let whole = ap₂ ◌+ℤ◌ (step_squares x₁ c₁ e₁) (step_squares x₂ c₂ e₂)
      ∙ join (pos (squares x₁)) (pos (squares c₁)) (pos (squares x₂)) (pos (squares c₂)) t (inner x₁ c₁) (inner x₂ c₂) in
      omega (arith, eq_in whole, sum (pos (squares x₁ + squares x₂ + squares c₁ + squares c₂)) (pos 2 *ℤ d), multiple 2 d, le_in h)

subtracted : (a b : ℤ) → (a -ℤ b) *ℤ (a -ℤ b) ≡ a *ℤ a +ℤ b *ℤ b +ℤ pos 2 *ℤ (negsuc 0 *ℤ (a *ℤ b))
subtracted a b =
    ring (a ∷ b ∷ []) ((v 0 ⊖ v 1) ⊗ (v 0 ⊖ v 1)) (v 0 ⊗ v 0 ⊕ v 1 ⊗ v 1 ⊕ k (pos 2) ⊗ (k (negsuc 0) ⊗ (v 0 ⊗ v 1))) refl

added : (a b : ℤ) → (a +ℤ b) *ℤ (a +ℤ b) ≡ a *ℤ a +ℤ b *ℤ b +ℤ pos 2 *ℤ (pos 1 *ℤ (a *ℤ b))
added a b = ring (a ∷ b ∷ []) ((v 0 ⊕ v 1) ⊗ (v 0 ⊕ v 1)) (v 0 ⊗ v 0 ⊕ v 1 ⊗ v 1 ⊕ k (pos 2) ⊗ (k (pos 1) ⊗ (v 0 ⊗ v 1))) refl

-- ---- the two ways of a step
module _ (x₁ c₁ x₂ c₂ : List ℤ) (e₁ : length x₁ ≡ length c₁) (e₂ : length x₂ ≡ length c₂) where
  abbrev d : ℤ
  d = inner x₁ c₁ +ℤ inner x₂ c₂

  pub subtract_pair_bound : pos 0 ≤ℤ d
      → squares (zip_with ◌-ℤ◌ x₁ c₁) + squares (zip_with ◌-ℤ◌ x₂ c₂) ≤ squares x₁ + squares x₂ + squares c₁ + squares c₂
  subtract_pair_bound h =
      step_bound ◌-ℤ◌ (negsuc 0) subtracted x₁ c₁ x₂ c₂ e₁ e₂ (le_out (omega (arith, le_in h, eq_in (sym (neg_as d)), opposite d)))

  pub add_pair_bound : d <ℤ pos 0
      → squares (zip_with ◌+ℤ◌ x₁ c₁) + squares (zip_with ◌+ℤ◌ x₂ c₂) ≤ squares x₁ + squares x₂ + squares c₁ + squares c₂
  add_pair_bound h = step_bound ◌+ℤ◌ (pos 1) added x₁ c₁ x₂ c₂ e₁ e₂ (le_out (omega (arith, lt_in h, eq_in (one_*ℤ d))))

-- of one pair
module _ (x c : List ℤ) (e : length x ≡ length c) where
  alone : inner x c +ℤ inner [] [] ≡ inner x c
  unfolding inner
  alone = +ℤ_idr (inner x c)

  pub subtract_bound : pos 0 ≤ℤ inner x c → squares (zip_with ◌-ℤ◌ x c) ≤ squares x + squares c
  unfolding squares zip_with
  subtract_bound h = omega (arith, subtract_pair_bound x c [] [] e refl (rw alone h))

  pub add_bound : inner x c <ℤ pos 0 → squares (zip_with ◌+ℤ◌ x c) ≤ squares x + squares c
  unfolding squares zip_with
  add_bound h = omega (arith, add_pair_bound x c [] [] e refl (rw alone h))
