-- The product over whole numbers is linear in the signed operand, and commutes with x^i. Assumes nothing.
use mathlib.Core.Path.{◌≡◌, sym, ap, ap₂, ◌∙◌}
use mathlib.Core.List.{List}
use Prim.Native.Nat.{ℕ, zero, suc, ◌≤◌}
use native.Mathlib.Omega.{arith}
use lib.IntN.{ℤ, pos, neg_ℤ, ◌+ℤ◌, ◌-ℤ◌}
use lib.ListN.{length, replicate, length-replicate}
use Rattle.laws.specs.Lists.{zip_with}
use Rattle.laws.proofs.Entries.{length-zip_with, length-tabulate}
use Rattle.polynomials.specs.Product.{coefficient, times, shift}
use Rattle.polynomials.proofs.Operations.{Linear, plus, minus}
use Rattle.polynomials.proofs.Rows.{turnℤ, length_turned, rows_linear, rows_turn, rows_zero, times_rows}
use Rattle.polynomials.proofs.Shift.{length_shift, shift_zero, shift_suc}

-- a product has 512 coefficients
pub length_times : (a b : List ℤ) → length (times a b) ≡ 512
unfolding times
length_times a b = length-tabulate (coefficient a b) 512

module _ (a : List ℤ) (la : length a ≡ 512) where
  -- a times zero is zero
  pub times_zero : times a (replicate 512 (pos 0)) ≡ replicate 512 (pos 0)
  times_zero = times_rows a (replicate 512 (pos 0)) la (length-replicate 512 (pos 0)) ∙ rows_zero a 511

  module _ (y v : List ℤ) (ly : length y ≡ 512) (lv : length v ≡ 512) where
    -- a times a sum, or a difference
    pub times_linear : {o : ℤ → ℤ → ℤ} → Linear o → times a (zip_with o y v) ≡ zip_with o (times a y) (times a v)
    times_linear {o} l =
        times_rows a (zip_with o y v) la (length-zip_with o y v (ly ∙ sym lv) ∙ ly) ∙ rows_linear l a y v (ly ∙ sym lv) (omega arith)
        ∙ sym (ap₂ (zip_with o) (times_rows a y la ly) (times_rows a v la lv))

    -- a sum
    pub times_add : times a (zip_with ◌+ℤ◌ y v) ≡ zip_with ◌+ℤ◌ (times a y) (times a v)
    times_add = times_linear plus

    -- a difference
    pub times_sub : times a (zip_with ◌-ℤ◌ y v) ≡ zip_with ◌-ℤ◌ (times a y) (times a v)
    times_sub = times_linear minus

  -- x passes out of the product
  pub times_turn : (z : List ℤ) → length z ≡ 512 → times a (turnℤ z) ≡ turnℤ (times a z)
  times_turn z lz = times_rows a (turnℤ z) la (length_turned neg_ℤ (pos 0) z (omega arith) ∙ lz) ∙ rows_turn a z (omega arith) ∙ ap turnℤ (sym (times_rows a z la lz))

  -- and so does x^i
  pub times_shift : (i : ℕ) (z : List ℤ) → i ≤ 512 → length z ≡ 512 → times a (shift i z) ≡ shift i (times a z)
  times_shift zero z h lz = ap (times a) (shift_zero z lz) ∙ sym (shift_zero (times a z) (length_times a z))
  times_shift (suc i) z h lz =
      ap (times a) (shift_suc i z h lz) ∙ times_turn (shift i z) (length_shift i z ∙ lz) ∙ ap turnℤ (times_shift i z (omega arith) lz)
      ∙ sym (shift_suc i (times a z) h (length_times a z))
