-- A key a carries v₁ to v₂ where a v₁ = v₂ modulo q. Shifts, sums and differences keep that. Assumes nothing.
use mathlib.Core.Path.{◌≡◌, sym, ap, ◌∙◌}
use mathlib.Core.List.{List, map}
use Prim.Native.Nat.{ℕ, ◌≤◌}
use lib.IntN.{ℤ, pos, ◌+ℤ◌, ◌-ℤ◌}
use lib.ListN.{length, replicate, length-map}
use Rattle.laws.specs.Lists.{zip_with}
use Rattle.polynomials.specs.Product.{times, product, shift}
use Rattle.polynomials.proofs.Operations.{Linear, plus, minus}
use Rattle.polynomials.proofs.Times.{times_zero, times_linear, times_shift}
use Rattle.polynomials.proofs.Residues.{residues, residues_shift, residues_linear, residues_again}

-- a v₁ = v₂ modulo q
pub record Carries (a : List ℕ) (v₁ v₂ : List ℤ) : Type 0 where
  pub is : product a v₁ ≡ residues v₂

-- a vector is carried to its product
pub carries_product : (a : List ℕ) (v : List ℤ) → Carries a v (map pos (product a v))
unfolding product
carries_product a v = record { is = sym (residues_again (times (map pos a) v)) }

module _ (a : List ℕ) (la : length a ≡ 512) where
  -- zero to zero
  pub carries_zero : Carries a (replicate 512 (pos 0)) (replicate 512 (pos 0))
  unfolding product
  carries_zero = record { is = ap residues (times_zero (map pos a) (length-map a pos ∙ la)) }

  -- x^i times both
  pub carries_shift : {v₁ v₂ : List ℤ} (i : ℕ) → i ≤ 512 → length v₁ ≡ 512 → Carries a v₁ v₂ → Carries a (shift i v₁) (shift i v₂)
  unfolding product
  carries_shift {v₁} {v₂} i h lv c =
      record {
        is = ap residues (times_shift (map pos a) (length-map a pos ∙ la) i v₁ h lv) ∙ residues_shift i (times (map pos a) v₁) v₂ c.is;
      }

  module _ {v₁ v₂ w₁ w₂ : List ℤ} (lv : length v₁ ≡ 512) (lw : length w₁ ≡ 512) (c : Carries a v₁ v₂) (d : Carries a w₁ w₂) where
    -- sums, or differences, of both
    pub carries_linear : {o : ℤ → ℤ → ℤ} → Linear o → Carries a (zip_with o v₁ w₁) (zip_with o v₂ w₂)
    unfolding product
    carries_linear l =
        record {
          is = ap residues (times_linear (map pos a) (length-map a pos ∙ la) v₁ w₁ lv lw l)
              ∙ residues_linear l (times (map pos a) v₁) v₂ (times (map pos a) w₁) w₂ c.is d.is;
        }

    -- sums
    pub carries_add : Carries a (zip_with ◌+ℤ◌ v₁ w₁) (zip_with ◌+ℤ◌ v₂ w₂)
    carries_add = carries_linear plus

    -- differences
    pub carries_sub : Carries a (zip_with ◌-ℤ◌ v₁ w₁) (zip_with ◌-ℤ◌ v₂ w₂)
    carries_sub = carries_linear minus
