-- Sums of terms. Assumes nothing.
use mathlib.Core.Path.{◌≡◌, sym, ap, ◌∙◌}
use Prim.Native.Nat.{ℕ, zero, suc, ◌+◌}
use native.Mathlib.Numerals.{add-one}
use lib.IntN.{ℤ, ◌+ℤ◌, +ℤ_assoc, +ℤ_idl, +ℤ_idr}
use Rattle.laws.specs.Integers.{sumℤ}

sum_suc : (term : ℕ → ℤ) (n : ℕ) → sumℤ term (suc n) ≡ sumℤ term n +ℤ term n
unfolding sumℤ
sum_suc term zero = +ℤ_idr (term 0) ∙ sym (+ℤ_idl (term 0))
sum_suc term (suc n) = ap (λ (z : ℤ). term 0 +ℤ z) (sum_suc (λ i. term (suc i)) n) ∙ sym (+ℤ_assoc (term 0) _ _)

-- one term more
pub sum_more : (term : ℕ → ℤ) (n : ℕ) → sumℤ term (n + 1) ≡ sumℤ term n +ℤ term n
sum_more term n = rw add-one (sum_suc term n)
