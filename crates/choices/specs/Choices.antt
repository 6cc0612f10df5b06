-- The sign choices (01, "Response"; document 004, Algorithm 1): start with v1 = v2 = 0; for each place i in rising order take the inner product of
-- (v1, v2) with (x^i s1, x^i s2); if it is zero or more, subtract that column from v, otherwise add it.
use Rattle.std.specs.Prelude.{Bool, true, false, List, [], ◌∷◌, ℕ, ℤ, pos, ◌+ℤ◌, ◌-ℤ◌, replicate}
use Rattle.std.specs.Int.Signed.{lt_z}
use Rattle.laws.specs.Lists.{zip_with}
use Rattle.sets.specs.Numbers.{dimension}
use Rattle.polynomials.specs.Product.{shift}
use Rattle.vectors.specs.Pairs.{Pair, pair, inner_pair}

-- (x^i s1, x^i s2)
abbrev pub column : ℕ → Pair → Pair
column i s = pair (shift i s.first) (shift i s.second)

-- added where yes, subtracted where no
abbrev pub added_if : Bool → ℤ → ℤ → ℤ
added_if true = ◌+ℤ◌
added_if false = ◌-ℤ◌

-- c is added where its inner product with v is negative, and subtracted where it is zero or more
abbrev pub choice : Pair → Pair → ℤ → ℤ → ℤ
choice v c = added_if (lt_z (inner_pair v c) (pos 0))

-- what v becomes with the column c
unfoldable pub chosen : Pair → Pair → Pair
chosen v c = pair (zip_with (choice v c) v.first c.first) (zip_with (choice v c) v.second c.second)

-- from v on, over the places that are left
unfoldable pub choose_from : Pair → List ℕ → Pair → Pair
choose_from s [] v = v
choose_from s (i ∷ l) v = choose_from s l (chosen v (column i s))

-- "start with v1 = v2 = 0"
abbrev pub zeros : List ℤ
zeros = replicate dimension (pos 0)

unfoldable pub choices : Pair → List ℕ → Pair
choices s l = choose_from s l (pair zeros zeros)
