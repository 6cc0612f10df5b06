-- The published form: steps of document 004, Algorithms 1, 2, 3 and 5, in its notation, beside the definitions of the calls, which follow paper 01. Those that
-- both papers write alike (rounding, z2 dagger) have no statement here.
-- The public key is A = (a₁, q - 2) modulo 2q with a₁ = 2a, the secret key is S = (s₁, s₂) = (f, 2g + 1), and ζ inverts q - 2 modulo 2q.
use Rattle.std.specs.Prelude.{◌≡◌, ◌↔◌, Bool, true, false, cond, List, [], ◌∷◌, ◌++◌, map, ℕ, ◌+◌, ◌*◌, ◌-◌, ◌%◌, ◌^◌, ◌≤◌, ℤ, pos, negsuc, nat_abs, ◌+ℤ◌, ◌-ℤ◌, ◌*ℤ◌, length, get_or, replicate}
use Rattle.std.specs.Int.Signed.{lt_z}
use Rattle.laws.specs.Integers.{residue}
use Rattle.laws.specs.Lists.{zip_with, tabulate}
use Rattle.sets.specs.declared.Set.{Set}
use Rattle.sets.specs.Numbers.{dimension, modulus, twice_modulus, d_of, largest_of, bound_squared_of}
use Rattle.answers.specs.Outcomes.{number_of}
use Rattle.polynomials.specs.Product.{times, shift, one}
use Rattle.vectors.specs.Vectors.{squares, inner}
use Rattle.vectors.specs.Places.{listed}
use Rattle.limits.specs.LengthRule.{length_rule}
use Rattle.keys.specs.Key.{second, key_test}
use Rattle.commitment.specs.Commitment.{sums}
use Rattle.vectors.specs.Pairs.{Pair, pair}
use Rattle.choices.specs.Choices.{choices}
use Rattle.masking.specs.Masking.{masked}
use Rattle.checking.specs.Checking.{marks}

-- ---- polynomials with coefficients modulo 2q

-- a number times a polynomial
abbrev pub scaled : ℤ → List ℤ → List ℤ
scaled x = map (λ y. x *ℤ y)

-- a sum of polynomials
abbrev pub vector_sum : List ℤ → List ℤ → List ℤ
vector_sum = zip_with ◌+ℤ◌

-- modulo 2q
abbrev pub modulo2q : List ℤ → List ℕ
modulo2q = map (residue twice_modulus)

-- ζ
abbrev pub zeta : ℕ
zeta = 18433

-- ζ (q - 2) = 1 modulo 2q
abbrev pub ZetaInverts : Type 0
ZetaInverts = zeta * (modulus - 2) % twice_modulus ≡ 1

-- Algorithm 3, line 5: a₁ = 2a
abbrev pub a₁ : List ℕ → List ℤ
a₁ a = map (λ x. pos (2 * x)) a

-- Algorithm 3, output: A S = q modulo 2q, that is a₁ s₁ + (q - 2) s₂ = q, for every key that passes the key test
abbrev pub KeyEquation : Type 0
KeyEquation =
    (set : ℕ) (f g : List ℤ) (a : List ℕ)
    → number_of (key_test set f g a) ≡ 0
    → modulo2q (vector_sum (times (a₁ a) f) (scaled (pos (modulus - 2)) (second g))) ≡ modulo2q (scaled (pos modulus) one)

-- Algorithm 2, line 2: u = ζ a₁ y₁ + y₂ modulo 2q
abbrev pub CommitmentSum : Type 0
CommitmentSum =
    (a : List ℕ) (y1 y2 : List ℤ)
    → length y2 ≡ dimension
    → sums a y1 y2 ≡ modulo2q (vector_sum (scaled (pos zeta) (times (a₁ a) y1)) y2)

-- c: 1 at the listed places and 0 elsewhere
abbrev pub challenge : List ℕ → List ℤ
challenge l = tabulate (λ i. cond (listed l i) (pos 1) (pos 0)) dimension

-- Algorithm 5, line 3: ζ a₁ z₁ + ζ q c modulo 2q
abbrev pub RebuildSum : Type 0
RebuildSum =
    (a : List ℕ) (z1 : List ℤ) (l : List ℕ)
    → sums a z1 (marks l) ≡ modulo2q (vector_sum (scaled (pos zeta) (times (a₁ a) z1)) (scaled (pos (zeta * modulus)) (challenge l)))

-- Algorithm 2, line 6: (z₁, z₂) = (y₁, y₂) + (-1)^b (v₁, v₂)
abbrev pub minus_one_to : Bool → ℤ
minus_one_to false = pos 1
minus_one_to true = negsuc 0

abbrev pub SignBit : Type 0
SignBit =
    (bit : Bool) (y v : Pair)
    → masked bit y v ≡ pair (vector_sum y.first (scaled (minus_one_to bit) v.first)) (vector_sum y.second (scaled (minus_one_to bit) v.second))

-- Algorithm 5, lines 1 and 2, not to reject: |(z₁ | 2^d z₂†)|₂ is at most B₂, and its largest entry is at most B∞; the first is asked of the squares
abbrev pub LengthRules : Type 0
LengthRules =
    (s : Set) (z1 z2 : List ℤ)
    → number_of (length_rule s z1 z2) ≡ 0
    ↔ (squares z1 + 4 ^ d_of s * squares z2 ≤ bound_squared_of s)
    × ((i : ℕ) → nat_abs (get_or z1 i (pos 0)) ≤ largest_of s)
    × ((i : ℕ) → 2 ^ d_of s * nat_abs (get_or z2 i (pos 0)) ≤ largest_of s)

-- ---- Algorithm 1: GreedySC(S, c)

-- "the sign function takes (arbitrarily) the value 1 on input 0"
abbrev pub sgn : ℤ → ℤ
sgn x = cond (lt_z x (pos 0)) (negsuc 0) (pos 1)

-- S by its columns, each of 2n entries, and the places of c in a fixed order
module _ (S : ℕ → List ℤ) where
  -- 2 to 5: for i in the places do ς ← sgn <v, s_i>; v ← v - ς s_i
  unfoldable pub greedy_from : List ℕ → List ℤ → List ℤ
  greedy_from [] v = v
  greedy_from (i ∷ l) v = greedy_from l (zip_with ◌-ℤ◌ v (scaled (sgn (inner v (S i))) (S i)))

  -- 1: v ← 0; 6: return v
  abbrev pub greedy_sc : List ℕ → List ℤ
  greedy_sc l = greedy_from l (replicate (dimension + dimension) (pos 0))

-- the columns of S: x^i s₁ above x^i s₂
abbrev pub columns : List ℤ → List ℤ → ℕ → List ℤ
columns s1 s2 i = shift i s1 ++ shift i s2

-- Algorithm 2, line 4: (v₁, v₂) = GreedySC(S, c)
abbrev pub SignChoices : Type 0
SignChoices =
    (s1 s2 : List ℤ) (l : List ℕ)
    → length s1 ≡ dimension → length s2 ≡ dimension
    → (choices (pair s1 s2) l).first ++ (choices (pair s1 s2) l).second ≡ greedy_sc (columns s1 s2) l
