-- Polynomials of 512 coefficients, with x^512 = -1 (01, "Parameters" and "Ring arithmetic"): the coefficient before x^k stands at place k.
use Rattle.std.specs.Prelude.{cond, List, ◌∷◌, ◌++◌, map, ℕ, ◌+◌, ◌-◌, leb, ℤ, pos, neg_ℤ, ◌*ℤ◌, get_or, take, drop, replicate}
use Rattle.laws.specs.Integers.{residue, sumℤ}
use Rattle.laws.specs.Lists.{tabulate}
use Rattle.sets.specs.Numbers.{dimension, modulus}

-- what stands before x^k in x^i times b: a term that passes x^511 returns at the bottom with its sign turned
unfoldable pub wrapped : List ℤ → ℕ → ℕ → ℤ
wrapped b i k = cond (leb i k) (get_or b (k - i) (pos 0)) (neg_ℤ (get_or b (dimension + k - i) (pos 0)))

-- what stands before x^k in a times b
unfoldable pub coefficient : List ℤ → List ℤ → ℕ → ℤ
coefficient a b k = sumℤ (λ i. get_or a i (pos 0) *ℤ wrapped b i k) dimension

-- a times b, over whole numbers
unfoldable pub times : List ℤ → List ℤ → List ℤ
times a b = tabulate (coefficient a b) dimension

-- a times b modulo q, each coefficient in 0 .. 12288, for a public key a
unfoldable pub product : List ℕ → List ℤ → List ℕ
product a b = map (residue modulus) (times (map pos a) b)

-- x^i times s, for i up to 512
unfoldable pub shift : ℕ → List ℤ → List ℤ
shift i s = map neg_ℤ (drop (dimension - i) s) ++ take (dimension - i) s

-- the polynomial 1
unfoldable pub one : List ℤ
one = pos 1 ∷ replicate (dimension - 1) (pos 0)
