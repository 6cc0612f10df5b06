-- The length rule (01, "Length rule"): every |z1| and every 2^d |z2 dagger| is at most "largest"; then the sum of all squares of z1 plus 4^d times those of
-- z2 dagger is at most B2 squared. The place of an entry is 0 .. 511 in z1 and 512 .. 1023 in z2 dagger.
use Rattle.std.specs.Prelude.{List, [], ◌∷◌, ℕ, suc, ◌+◌, ◌*◌, ◌^◌, leb, ℤ, nat_abs, Err}
use Rattle.laws.specs.Refusals.{must}
use Rattle.sets.specs.declared.Set.{Set}
use Rattle.sets.specs.Numbers.{dimension, d_of, largest_of, bound_squared_of}
use Rattle.answers.specs.Outcomes.{Outcome, Done}
use Rattle.answers.specs.declared.Refusal.TheVariants.{EntryBeyond, SumAbove}
use Rattle.vectors.specs.Vectors.{squares}

-- every factor |x| is at most the limit, else the first place, counted from `place`, where it is not; then what follows
unfoldable pub entries : ℕ → ℕ → ℕ → List ℤ → Outcome → Outcome
entries limit factor place [] next = next
entries limit factor place (x ∷ xs) next = must (leb (factor * nat_abs x) limit) (Err (EntryBeyond place)) (entries limit factor (suc place) xs next)

unfoldable pub length_rule : Set → List ℤ → List ℤ → Outcome
length_rule s z1 z2 =
    entries (largest_of s) 1 0 z1
    (entries (largest_of s) (2 ^ d_of s) dimension z2
    (must (leb (squares z1 + 4 ^ d_of s * squares z2) (bound_squared_of s)) (Err SumAbove)
    Done))
