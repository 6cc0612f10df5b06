-- Pairs of vectors: their lengths, the size of their entries, and what these bound. Assumes nothing.
use mathlib.Core.Path.{◌≡◌, ap}
use mathlib.Core.Bool.{Bool, true, false}
use mathlib.Core.List.{List}
use Prim.Native.Nat.{ℕ, ◌+◌, ◌*◌, ◌≤◌}
use native.Mathlib.Nat.{mul-add}
use native.Mathlib.Omega.{arith}
use lib.IntN.{ℤ, pos, nat_abs}
use lib.ListN.{length, get_or}
use Rattle.laws.specs.Lists.{zip_with}
use Rattle.laws.proofs.Bounds.{abs_add, abs_sub}
use Rattle.laws.proofs.Entries.{get_or-zip_with_anywhere}
use Rattle.sets.specs.Numbers.{dimension}
use Rattle.vectors.specs.Vectors.{squares, inner}
use Rattle.vectors.proofs.Lengths.{sizes_le_times}
use Rattle.vectors.proofs.Sums.{inner_le_sizes}
use Rattle.vectors.specs.Pairs.{Pair, squares_pair, inner_pair}
use Rattle.choices.specs.Choices.{added_if}

-- both vectors have 512 entries
pub record Sized (v : Pair) : Type 0 where
  pub first : length v.first ≡ dimension
  pub second : length v.second ≡ dimension

-- every entry of both vectors is at most a bound, either way
pub record Within (bound : ℕ) (v : Pair) : Type 0 where
  pub first : (k : ℕ) → nat_abs (get_or v.first k (pos 0)) ≤ bound
  pub second : (k : ℕ) → nat_abs (get_or v.second k (pos 0)) ≤ bound

-- |<z, v>| is at most the largest |z| times |v|², since |x| ≤ x² for whole numbers
pub inner_bound : (bound : ℕ) (z v : Pair) → Within bound z → nat_abs (inner_pair z v) ≤ bound * squares_pair v
inner_bound bound z v h =
    omega (
      arith,
      abs_add (inner z.first v.first) (inner z.second v.second),
      inner_le_sizes z.first v.first,
      inner_le_sizes z.second v.second,
      sizes_le_times bound z.first v.first h.first,
      sizes_le_times bound z.second v.second h.second,
      mul-add bound (squares v.first) (squares v.second),
    )

-- ---- sums and differences of vectors
added_if_size : (b : Bool) (x y : ℤ) → nat_abs (added_if b x y) ≤ nat_abs x + nat_abs y
added_if_size true = abs_add
added_if_size false = abs_sub

module _ (b : Bool) (x c : List ℤ) (same : length x ≡ length c) (k : ℕ) where
  -- entry by entry
  pub added_if_at : get_or (zip_with (added_if b) x c) k (pos 0) ≡ added_if b (get_or x k (pos 0)) (get_or c k (pos 0))
  added_if_at = pick b
    where
      pick : (b : Bool) → get_or (zip_with (added_if b) x c) k (pos 0) ≡ added_if b (get_or x k (pos 0)) (get_or c k (pos 0))
      pick true = get_or-zip_with_anywhere (added_if true) x c k (pos 0) (pos 0) same
      pick false = get_or-zip_with_anywhere (added_if false) x c k (pos 0) (pos 0) same

  -- bounds add up
  pub added_if_within : (m n : ℕ) → nat_abs (get_or x k (pos 0)) ≤ m → nat_abs (get_or c k (pos 0)) ≤ n
      → nat_abs (get_or (zip_with (added_if b) x c) k (pos 0)) ≤ m + n
  added_if_within m n h j = omega (arith, ap nat_abs added_if_at, added_if_size b (get_or x k (pos 0)) (get_or c k (pos 0)))
