-- Lengths, ranges, squared lengths and inner products of vectors of whole numbers. The sum of two vectors is `zip_with ◌+ℤ◌`, their difference `zip_with ◌-ℤ◌`.
use Rattle.std.specs.Prelude.{Bool, List, [], ◌∷◌, ◌++◌, map, ℕ, ◌+◌, ◌*◌, eqb, leb, ltb, ℤ, pos, neg_ℤ, nat_abs, ◌+ℤ◌, ◌*ℤ◌, length}
use Rattle.sets.specs.Numbers.{dimension}

-- whether a length is that of a polynomial
abbrev pub is_dimension : ℕ → Bool
is_dimension n = eqb n dimension

abbrev pub sized : {A : Type 0} → List A → Bool
sized x = is_dimension (length x)

-- whether x lies in - bound .. bound
abbrev pub within : ℕ → ℤ → Bool
within bound x = leb (nat_abs x) bound

-- whether x lies in 0 .. bound - 1
abbrev pub below : ℕ → ℕ → Bool
below bound x = ltb x bound

-- the squared length: the sum of the squares
unfoldable pub squares : List ℤ → ℕ
squares [] = 0
squares (x ∷ xs) = nat_abs x * nat_abs x + squares xs

-- the inner product: the sum of the products, place by place
unfoldable pub inner : List ℤ → List ℤ → ℤ
inner [] ys = pos 0
inner (x ∷ xs) [] = pos 0
inner (x ∷ xs) (y ∷ ys) = x *ℤ y +ℤ inner xs ys

-- the sum of the products' sizes, which bounds an inner product and each part of it
unfoldable pub sizes : List ℤ → List ℤ → ℕ
sizes [] ys = 0
sizes (x ∷ xs) [] = 0
sizes (x ∷ xs) (y ∷ ys) = nat_abs x * nat_abs y + sizes xs ys

-- a vector behind its negative: x^i s is the part of it that starts 512 - i from its start
abbrev pub mirrored : List ℤ → List ℤ
mirrored s = map neg_ℤ s ++ s
