-- Whole numbers and their residues.
use Rattle.std.specs.Prelude.{ℕ, zero, suc, ◌-◌, ◌%◌, ℤ, pos, negsuc, ◌+ℤ◌}

-- z modulo m, in 0 .. m - 1
unfoldable pub residue : ℕ → ℤ → ℕ
residue m (pos n) = n % m
residue m (negsuc n) = m - suc (n % m)

-- term 0 + term 1 + .. + term (n - 1)
unfoldable pub sumℤ : (ℕ → ℤ) → ℕ → ℤ
sumℤ term zero = pos 0
sumℤ term (suc n) = term 0 +ℤ sumℤ (λ i. term (suc i)) n
