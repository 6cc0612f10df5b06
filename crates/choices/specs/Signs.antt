-- "So v = S c', where c' is 1 or -1 at the listed places and 0 elsewhere" (01, "Response"): c', made by the same walk.
use Rattle.std.specs.Prelude.{List, [], ◌∷◌, ℕ, ℤ}
use Rattle.laws.specs.Lists.{zip_with}
use Rattle.polynomials.specs.Product.{one, shift}
use Rattle.vectors.specs.Pairs.{Pair, pair}
use Rattle.choices.specs.Choices.{column, choice, chosen, zeros}

-- from v on, over the places that are left: x^i t joins the sum with the sign that the column x^i s is given
unfoldable pub sum_from : Pair → List ℕ → Pair → List ℤ → List ℤ → List ℤ
sum_from s [] v t sum = sum
sum_from s (i ∷ l) v t sum = sum_from s l (chosen v (column i s)) t (zip_with (choice v (column i s)) sum (shift i t))

-- the sum of x^i t over the listed places i, each with the sign that the choices of s give it
unfoldable pub signed_sum : Pair → List ℕ → List ℤ → List ℤ
signed_sum s l t = sum_from s l (pair zeros zeros) t zeros

-- c'
unfoldable pub signs : Pair → List ℕ → List ℤ
signs s l = signed_sum s l one
