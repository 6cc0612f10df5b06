-- The polynomial 1, and x^i = x^i times 1. Assumes nothing.
use mathlib.Core.Path.{◌≡◌, refl, ap, ap₂, ◌∙◌}
use mathlib.Core.List.{List, [], ◌∷◌, ◌++◌, append-nil}
use Prim.Native.Nat.{ℕ, zero, suc, ◌+◌, ◌-◌, ◌<◌}
use native.Mathlib.Omega.{arith}
use native.Mathlib.Nat.{not-suc-le-zero}
use native.Mathlib.Decide.{dec_lt}
use lib.IntN.{ℤ, pos, neg_ℤ}
use lib.ListN.{length, get_or, replicate, length-append, length-replicate, get_or-replicate}
use Rattle.laws.specs.Lists.{zip_with}
use Rattle.laws.proofs.Solver.{v, k, ◌⊕◌, ◌⊗◌, ring}
use Rattle.polynomials.specs.Product.{times, shift, one}
use Rattle.polynomials.specs.Field.{by_rows}
use Rattle.polynomials.proofs.Operations.{row}
use Rattle.polynomials.proofs.Rows.{turnℤ, rowsℤ, turn_padded, times_rows}
use Rattle.polynomials.proofs.Shift.{shift_low, shift_high}

-- 1 has 512 coefficients
pub length-one : length one ≡ 512
unfolding one
length-one = ap suc (length-replicate 511 (pos 0))

-- of which all but the first are 0
one_after : (n : ℕ) → 0 < n → n < 512 → get_or one n (pos 0) ≡ pos 0
unfolding one
one_after zero h j = absurd (not-suc-le-zero h)
one_after (suc n) h j = get_or-replicate 511 n (pos 0) (pos 0) (omega arith)

-- x^i is 1 at place i
pub power_here : (i : ℕ) → i < 512 → get_or (shift i one) i (pos 0) ≡ pos 1
unfolding one
power_here i h =
    let same : i - i ≡ 0 = omega arith in
    shift_high i one length-one i (omega arith) h ∙ ap (λ (n : ℕ). get_or one n (pos 0)) same

-- and 0 elsewhere
pub power_elsewhere : (i n : ℕ) → i < 512 → n < 512 → (i ≡ n → ⊥) → get_or (shift i one) n (pos 0) ≡ pos 0
power_elsewhere i n h j other = pick (dec_lt n i)
  where
    pick : Dec (n < i) → get_or (shift i one) n (pos 0) ≡ pos 0
    pick (yes low) = shift_low i one length-one n (omega arith) low ∙ ap neg_ℤ (one_after (512 - i + n) (omega arith) (omega arith))
    pick (no high) = shift_high i one length-one n (omega arith) j ∙ one_after (n - i) (omega arith) (omega arith)

-- ---- a times 1 is a

-- a row of zeros adds nothing
row_zeros : (a : ℤ) (g : List ℤ) (n : ℕ) → length g ≡ n → zip_with (row a) (replicate n (pos 0)) g ≡ g
unfolding zip_with
row_zeros a [] zero e = refl
row_zeros a [] (suc n) e = refl
row_zeros a (x ∷ g) zero e = absurd (omega arith)
row_zeros a (x ∷ g) (suc n) e = ap₂ ◌∷◌ (ring (a ∷ x ∷ []) (v 0 ⊗ k (pos 0) ⊕ v 1) (v 1) refl) (row_zeros a g n (omega arith))

-- the row of a
row_one : (a : ℤ) (g : List ℤ) → length g ≡ 511 → zip_with (row a) one (pos 0 ∷ g) ≡ a ∷ g
unfolding one zip_with
row_one a g e = ap₂ ◌∷◌ (ring (a ∷ []) (v 0 ⊗ k (pos 1) ⊕ k (pos 0)) (v 0) refl) (row_zeros a g 511 e)

-- row by row
rows_one : (f : List ℤ) (n : ℕ) → length f + n ≡ 512 → rowsℤ f one ≡ f ++ replicate n (pos 0)
unfolding by_rows
rows_one [] n e =
    let all : length one ≡ n = omega (arith, length-one) in
    ap (λ (m : ℕ). replicate m (pos 0)) all
rows_one (a ∷ f) n e =
    ap (λ (h : List ℤ). zip_with (row a) one (turnℤ h)) (rows_one f (suc n) (omega arith))
    ∙ ap (zip_with (row a) one) (turn_padded f n)
    ∙ row_one a (f ++ replicate n (pos 0)) (simp (length-append, length-replicate) (omega arith))

-- a times 1 is a
pub times_one : (a : List ℤ) → length a ≡ 512 → times a one ≡ a
times_one a e = times_rows a one e length-one ∙ rows_one a 0 (omega arith) ∙ append-nil a
