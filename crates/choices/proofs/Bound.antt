-- The squared length of v: at most the key's for each place (demand 3; document 004, Theorem 1). Assumes nothing.
use mathlib.Core.Path.{◌≡◌, refl, subst, ◌∙◌}
use mathlib.Core.Bool.{Bool, true, false}
use mathlib.Core.List.{List, [], ◌∷◌}
use Prim.Native.Nat.{ℕ, zero, suc, ◌+◌, ◌*◌, ◌-◌, ◌≤◌}
use native.Mathlib.Nat.{suc-mul}
use native.Mathlib.Omega.{arith}
use lib.IntN.{pos}
use lib.ListN.{length, replicate, length-replicate}
use lib.Signed.{lt_z, lt_z_yes, lt_z_no}
use Rattle.laws.specs.Lists.{zip_with}
use Rattle.laws.proofs.Entries.{length-zip_with}
use Rattle.sets.specs.Numbers.{dimension}
use Rattle.polynomials.specs.Product.{shift}
use Rattle.polynomials.proofs.Shift.{length_shift}
use Rattle.vectors.specs.Vectors.{squares}
use Rattle.vectors.proofs.Greedy.{add_pair_bound, subtract_pair_bound}
use Rattle.vectors.proofs.Lengths.{squares_turned}
use Rattle.vectors.specs.Pairs.{Pair, pair, squares_pair, inner_pair}
use Rattle.choices.specs.Choices.{column, added_if, choice, chosen, choose_from, choices, zeros}
use Rattle.choices.proofs.Pairs.{Sized}

-- ---- a column has the key's size

-- 512 entries
pub sized_column : (i : ℕ) (s : Pair) → Sized s → Sized (column i s)
sized_column i s h = record { first = length_shift i s.first ∙ h.first; second = length_shift i s.second ∙ h.second }

-- and the same squared length, since a shift keeps it
pub squares_column : (i : ℕ) (s : Pair) → squares_pair (column i s) ≡ squares_pair s
unfolding shift
squares_column i s = omega (arith, squares_turned (dimension - i) s.first, squares_turned (dimension - i) s.second)

-- ---- one column more
module _ (v c : Pair) (hv : Sized v) (hc : Sized c) where
  sized_chosen : Sized (chosen v c)
  unfolding chosen
  sized_chosen =
      record {
        first = length-zip_with (choice v c) v.first c.first (omega arith) ∙ hv.first;
        second = length-zip_with (choice v c) v.second c.second (omega arith) ∙ hv.second;
      }

  -- with the sign that it is given, a column adds at most its squared length
  pub squares_chosen : squares_pair (chosen v c) ≤ squares_pair v + squares_pair c
  unfolding chosen
  squares_chosen = pick (lt_z (inner_pair v c) (pos 0)) refl
    where
      pick : (b : Bool) → lt_z (inner_pair v c) (pos 0) ≡ b
          → squares (zip_with (added_if b) v.first c.first) + squares (zip_with (added_if b) v.second c.second) ≤ squares_pair v + squares_pair c
      pick true e = omega (arith, add_pair_bound v.first c.first v.second c.second (omega arith) (omega arith) (lt_z_yes (rw e tt)))
      pick false e = omega (arith, subtract_pair_bound v.first c.first v.second c.second (omega arith) (omega arith) (lt_z_no (rw e tt)))

-- ---- all columns

-- 512 entries, and at most the key's squared length for each of n columns
pub record Short (s : Pair) (n : ℕ) (v : Pair) : Type 0 where
  pub sized : Sized v
  pub bound : squares_pair v ≤ n * squares_pair s

squares_zeros : (n : ℕ) → squares (replicate n (pos 0)) ≡ 0
unfolding squares
squares_zeros zero = refl
squares_zeros (suc n) = omega (arith, squares_zeros n)

-- none yet
pub short_zeros : (s : Pair) → Short s 0 (pair zeros zeros)
short_zeros s =
    record {
      sized = record { first = length-replicate dimension (pos 0); second = length-replicate dimension (pos 0) };
      bound = omega (arith, squares_zeros dimension);
    }

module _ (s : Pair) (key : Sized s) where
  -- one more
  pub short_chosen : {n : ℕ} {v : Pair} (i : ℕ) → Short s n v → Short s (suc n) (chosen v (column i s))
  short_chosen {n} {v} i h =
      let c = column i s in
      let hc = sized_column i s key in
      record {
        sized = sized_chosen v c h.sized hc;
        bound = omega (arith, h.bound, squares_chosen v c h.sized hc, squares_column i s, suc-mul n (squares_pair s));
      }

  short_from : (l : List ℕ) (n m : ℕ) → length l + n ≡ m → (v : Pair) → Short s n v → Short s m (choose_from s l v)
  unfolding choose_from
  short_from [] n m e v h = let all : n ≡ m = omega arith in subst (λ (k : ℕ). Short s k v) all h
  short_from (i ∷ l) n m e v h = short_from l (suc n) m (omega arith) (chosen v (column i s)) (short_chosen i h)

  module _ (l : List ℕ) where
    short : Short s (length l) (choices s l)
    unfolding choices
    short = short_from l 0 (length l) (omega arith) (pair zeros zeros) (short_zeros s)

    -- v1 and v2 have 512 entries
    pub choices_sized : Sized (choices s l)
    choices_sized = short.sized

    -- |v|² is at most the number of places times |s|²
    pub choices_bound : squares_pair (choices s l) ≤ length l * squares_pair s
    choices_bound = short.bound
