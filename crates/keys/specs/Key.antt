-- The key and its test (01, "Key" and "Numbers that come back"; 02, C-12).
use Rattle.std.specs.Prelude.{Bool, ◌&&◌, cond, List, [], ◌∷◌, map, ℕ, ◌+◌, eqb, leb, ltb, ℤ, pos, nat_abs, ◌+ℤ◌, ◌*ℤ◌, Err}
use Rattle.laws.specs.Integers.{residue}
use Rattle.laws.specs.Lists.{every, same}
use Rattle.laws.specs.Refusals.{must}
use Rattle.sets.specs.declared.Set.{Set}
use Rattle.sets.specs.Numbers.{modulus, key_limit_of, ones_of, twos_of, asked_of}
use Rattle.answers.specs.Outcomes.{Outcome, Done, for_set}
use Rattle.answers.specs.declared.Refusal.TheVariants.{UnknownSet, WrongLength, CoefficientOutside, RelationBroken, KeyTooLong, CountsWrong}
use Rattle.polynomials.specs.Product.{product}
use Rattle.vectors.specs.Vectors.{sized, within}
use Rattle.vectors.specs.Pairs.{pair, squares_pair}

-- f and g have coefficients -2 .. 2
abbrev pub is_small : ℤ → Bool
is_small = within 2

-- a has coefficients 0 .. 12288
abbrev pub is_residue : ℕ → Bool
is_residue x = ltb x modulus

unfoldable pub in_range : List ℤ → List ℤ → List ℕ → Bool
in_range f g a = every is_small f && (every is_small g && every is_residue a)

abbrev pub plus_one : List ℤ → List ℤ
plus_one [] = []
plus_one (x ∷ xs) = (x +ℤ pos 1) ∷ xs

-- s2 = 2g + 1, where the 1 stands at place 0; s1 is f
unfoldable pub second : List ℤ → List ℤ
second g = plus_one (map (λ x. pos 2 *ℤ x) g)

-- a times s1 = s2 modulo q
abbrev pub relation : List ℕ → List ℤ → List ℤ → Bool
relation a s1 s2 = same (product a s1) (map (residue modulus) s2)

-- how many coefficients of a polynomial are of this size: 1 or -1 for 1, 2 or -2 for 2
unfoldable pub counted : ℕ → List ℤ → ℕ
counted size [] = 0
counted size (x ∷ xs) = cond (eqb (nat_abs x) size) 1 0 + counted size xs

-- exactly d1 coefficients of 1 or -1 and exactly d2 of 2 or -2. Those of f and g being -2 .. 2, the rest is zero
abbrev pub has_counts : Set → List ℤ → Bool
has_counts s f = eqb (counted 1 f) (ones_of s) && eqb (counted 2 f) (twos_of s)

-- of both polynomials
abbrev pub right_counts : Set → List ℤ → List ℤ → Bool
right_counts s f g = has_counts s f && has_counts s g

-- A proper key, of coefficients in range: the counts are right, the squared length, the sum of the squares of s1 and s2, is at most K, and the relation holds.
-- 15, 7, 6; 7 can't occur (`no_key_too_long`).
unfoldable pub proper_key : Set → List ℤ → List ℤ → List ℕ → Outcome
proper_key s f g a =
    must (right_counts s f g) (Err CountsWrong)
    (must (leb (squares_pair (pair f (second g))) (key_limit_of s)) (Err KeyTooLong)
    (must (relation a f (second g)) (Err RelationBroken)
    Done))

-- the key test for a set: 2, 3, 15, 7, 6
abbrev pub key_test_of : Set → List ℤ → List ℤ → List ℕ → Outcome
key_test_of s f g a =
    must (sized f && (sized g && sized a)) (Err WrongLength)
    (must (in_range f g a) (Err CoefficientOutside)
    (proper_key s f g a))

-- the key test: 1, 2, 3, 15, 7, 6
unfoldable pub key_test : ℕ → List ℤ → List ℤ → List ℕ → Outcome
key_test set f g a = for_set (asked_of set) (Err UnknownSet) (λ s. key_test_of s f g a)
