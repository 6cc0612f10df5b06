-- v1 and v2 are sums of columns with the same signs: what every column keeps, whatever its sign, holds of them. Assumes nothing.
use mathlib.Core.Path.{◌≡◌, refl, sym, subst, ◌∙◌}
use mathlib.Core.Bool.{Bool, true, false}
use mathlib.Core.List.{List, [], ◌∷◌}
use Prim.Native.Nat.{ℕ, zero, suc, ◌+◌, ◌*◌, ◌<◌, ◌≤◌}
use native.Mathlib.Nat.{suc-mul}
use native.Mathlib.Omega.{arith}
use borrow.Author.Tests.{ltb-true}
use lib.IntN.{ℤ, pos, nat_abs}
use lib.ListN.{length, get_or, replicate, length-replicate}
use lib.Signed.{lt_z}
use Rattle.laws.specs.Lists.{every, zip_with}
use Rattle.laws.proofs.Bounds.{abs_neg}
use Rattle.laws.proofs.Chain.{and_left, and_right}
use Rattle.laws.proofs.Entries.{length-zip_with}
use Rattle.sets.specs.Numbers.{dimension}
use Rattle.polynomials.specs.Product.{shift}
use Rattle.polynomials.proofs.Operations.{Linear, plus, minus}
use Rattle.polynomials.proofs.Shift.{length_shift, shift_keeps}
use Rattle.vectors.specs.Places.{is_place}
use Rattle.vectors.specs.Pairs.{Pair, pair, inner_pair}
use Rattle.choices.specs.Choices.{column, added_if, choice, chosen, choose_from, choices, zeros}
use Rattle.choices.specs.Signs.{sum_from, signed_sum}
use Rattle.choices.proofs.Pairs.{Sized, Within, added_if_at, added_if_within}

-- ---- v1 and v2 are signed sums
choose_sums : (s : Pair) (l : List ℕ) (v : Pair)
    → choose_from s l v ≡ pair (sum_from s l v s.first v.first) (sum_from s l v s.second v.second)
unfolding choose_from sum_from chosen
choose_sums s [] v = refl
choose_sums s (i ∷ l) v = choose_sums s l (chosen v (column i s))

-- v1 and v2, with the same signs
pub choices_sums : (s : Pair) (l : List ℕ) → choices s l ≡ pair (signed_sum s l s.first) (signed_sum s l s.second)
unfolding choices signed_sum
choices_sums s l = choose_sums s l (pair zeros zeros)

-- ---- one column more
-- the operation is linear
pub added_if_linear : (b : Bool) → Linear (added_if b)
added_if_linear true = plus
added_if_linear false = minus

column_same : (i : ℕ) (x t : List ℤ) → length x ≡ dimension → length t ≡ dimension → length x ≡ length (shift i t)
column_same i x t lx lt = lx ∙ sym (length_shift i t ∙ lt)

-- a column keeps the length
pub added_if-length : (b : Bool) (i : ℕ) (x t : List ℤ) → length x ≡ dimension → length t ≡ dimension
    → length (zip_with (added_if b) x (shift i t)) ≡ dimension
added_if-length b i x t lx lt = length-zip_with (added_if b) x (shift i t) (column_same i x t lx lt) ∙ lx

-- and changes each entry by its own
pub column_at : (b : Bool) (i : ℕ) (x t : List ℤ) → length x ≡ dimension → length t ≡ dimension → (k : ℕ)
    → get_or (zip_with (added_if b) x (shift i t)) k (pos 0) ≡ added_if b (get_or x k (pos 0)) (get_or (shift i t) k (pos 0))
column_at b i x t lx lt k = added_if_at b x (shift i t) (column_same i x t lx lt) k

-- ---- a list of places
-- the first is a place
pub first_place : (i : ℕ) (l : List ℕ) → every is_place (i ∷ l) ≡ true → i < dimension
unfolding every
first_place i l e = ltb-true i dimension (and_left (is_place i) (every is_place l) e)

-- and so are the others
pub other_places : (i : ℕ) (l : List ℕ) → every is_place (i ∷ l) ≡ true → every is_place l ≡ true
unfolding every
other_places i l e = and_right (is_place i) (every is_place l) e

-- ---- all columns: what relates two sums with the same signs, over t and over u, after n columns
module _ (t u : List ℤ) (R : ℕ → List ℤ → List ℤ → Type 0)
    (step : (b : Bool) (n i : ℕ) (x y : List ℤ) → i < dimension → R n x y
    → R (suc n) (zip_with (added_if b) x (shift i t)) (zip_with (added_if b) y (shift i u))) where
  keep_from : (s : Pair) (l : List ℕ) → every is_place l ≡ true → (v : Pair) (n m : ℕ) → length l + n ≡ m → (x y : List ℤ) → R n x y
      → R m (sum_from s l v t x) (sum_from s l v u y)
  unfolding sum_from
  keep_from s [] e v n m c x y r = let all : n ≡ m = omega arith in subst (λ (k : ℕ). R k x y) all r
  keep_from s (i ∷ l) e v n m c x y r =
      keep_from s l (other_places i l e) (chosen v (column i s)) (suc n) m (omega arith)
      (zip_with (choice v (column i s)) x (shift i t)) (zip_with (choice v (column i s)) y (shift i u))
      (step (lt_z (inner_pair v (column i s)) (pos 0)) n i x y (first_place i l e) r)

  -- what each column keeps, whatever its sign, holds at the end
  pub sums_keep : (s : Pair) (l : List ℕ) → every is_place l ≡ true → R 0 zeros zeros → R (length l) (signed_sum s l t) (signed_sum s l u)
  unfolding signed_sum
  sums_keep s l e r = keep_from s l e (pair zeros zeros) 0 (length l) (omega arith) zeros zeros r

-- ---- entries
none : (n k : ℕ) → nat_abs (get_or (replicate n (pos 0)) k (pos 0)) ≤ 0
none zero k = omega arith
none (suc n) zero = omega arith
none (suc n) (suc k) = none n k

-- those of zero
pub within_zeros : (bound : ℕ) → Within bound (pair zeros zeros)
within_zeros bound = record { first = λ k. omega (arith, none dimension k); second = λ k. omega (arith, none dimension k) }

module _ (t : List ℤ) (bound : ℕ) (lt : length t ≡ dimension) (small : (k : ℕ) → nat_abs (get_or t k (pos 0)) ≤ bound) (i : ℕ) (place : i < dimension) where
  entry : (k : ℕ) → nat_abs (get_or (shift i t) k (pos 0)) ≤ bound
  entry k = shift_keeps (λ y z. nat_abs y ≤ bound) (omega arith) (λ y z h. omega (arith, abs_neg y)) t t lt lt small i k (omega arith)

  more : (b : Bool) (n : ℕ) (x : List ℤ) → length x ≡ dimension → (k : ℕ) → nat_abs (get_or x k (pos 0)) ≤ n * bound
      → nat_abs (get_or (zip_with (added_if b) x (shift i t)) k (pos 0)) ≤ suc n * bound
  more b n x lx k r = omega (arith, added_if_within b x (shift i t) (column_same i x t lx lt) k (n * bound) bound r (entry k), suc-mul n bound)

module _ (s : Pair) (key : Sized s) (bound : ℕ) (small : Within bound s) where
  module _ (i : ℕ) (place : i < dimension) where
    -- those of a column are the key's, either way
    pub within_column : Within bound (column i s)
    within_column =
        record { first = entry s.first bound key.first small.first i place; second = entry s.second bound key.second small.second i place }

    -- and one column more adds as much
    pub within_chosen : (n : ℕ) (v : Pair) → Sized v → Within (n * bound) v → Within (suc n * bound) (chosen v (column i s))
    unfolding chosen
    within_chosen n v hv h =
        let b = lt_z (inner_pair v (column i s)) (pos 0) in
        record {
          first = λ k. more s.first bound key.first small.first i place b n v.first hv.first k (h.first k);
          second = λ k. more s.second bound key.second small.second i place b n v.second hv.second k (h.second k);
        }

module _ (s : Pair) (key : Sized s) (l : List ℕ) (places : every is_place l ≡ true) where
  sum_entries : (t : List ℤ) (bound : ℕ) → length t ≡ dimension → ((k : ℕ) → nat_abs (get_or t k (pos 0)) ≤ bound)
      → (k : ℕ) → nat_abs (get_or (signed_sum s l t) k (pos 0)) ≤ length l * bound
  sum_entries t bound lt small k =
      (sums_keep t t (λ n x y. (length x ≡ dimension) × (nat_abs (get_or x k (pos 0)) ≤ n * bound))
      (λ b n i x y h r. (added_if-length b i x t r.0 lt, more t bound lt small i h b n x r.0 k r.1)) s l places
      (length-replicate dimension (pos 0), omega (arith, none dimension k))).1

  -- each entry of v1 and of v2 is at most a column's for each place
  pub choices_within : (bound : ℕ) → Within bound s → Within (length l * bound) (choices s l)
  choices_within bound small =
      rw (choices_sums s l)
      (record { first = sum_entries s.first bound key.first small.first; second = sum_entries s.second bound key.second small.second })
