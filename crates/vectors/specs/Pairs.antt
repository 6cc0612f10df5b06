-- Pairs of vectors, as (s1, s2), (y1, y2), (v1, v2) and (z1, z2): their squared length and inner product.
use Rattle.std.specs.Prelude.{List, ℕ, ◌+◌, ℤ, ◌+ℤ◌}
use Rattle.vectors.specs.Vectors.{squares, inner}

pub record Pair : Type 0 where
  pub first : List ℤ
  pub second : List ℤ

abbrev pub pair : List ℤ → List ℤ → Pair
pair x y = record { first = x; second = y }

-- the squared length: the sum of the squares of both vectors
abbrev pub squares_pair : Pair → ℕ
squares_pair v = squares v.first + squares v.second

abbrev pub inner_pair : Pair → Pair → ℤ
inner_pair v c = inner v.first c.first +ℤ inner v.second c.second
