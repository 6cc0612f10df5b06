-- Lists that rise, and the places of a proper list. Assumes nothing.
use mathlib.Core.Path.{◌≡◌, refl, sym}
use mathlib.Core.Bool.{Bool, true, false, ◌&&◌}
use mathlib.Core.List.{List, [], ◌∷◌}
use Prim.Native.Nat.{ℕ, zero, suc, ◌+◌, ◌<◌}
use native.Mathlib.Nat.{not-suc-le-zero, le_of_suc-le-suc}
use native.Mathlib.Numerals.{add-one}
use native.Mathlib.Omega.{arith}
use borrow.Author.Tests.{ltb-true, ltb-false, eqb-true}
use lib.Dec.{ltb, eqb}
use lib.ListN.{length, get_or}
use Rattle.std.specs.List.{IsAllAdjacentAnswer, AllAdjacentBelow}
use Rattle.laws.specs.Lists.{every}
use Rattle.laws.proofs.Chain.{and_left, and_right}
use Rattle.laws.proofs.Entries.{every_at}
use Rattle.sets.specs.declared.Set.{Set}
use Rattle.sets.specs.Numbers.{dimension, kappa_of}
use Rattle.vectors.specs.Places.{is_place, rising, proper_list}

-- ---- the places of a list that rises
pub rising_tail : (i : ℕ) (l : List ℕ) → rising (i ∷ l) ≡ true → rising l ≡ true
unfolding rising
rising_tail i [] e = refl
rising_tail i (j ∷ l) e = and_right (ltb i j) (rising (j ∷ l)) e

above_first : (i : ℕ) (l : List ℕ) → rising (i ∷ l) ≡ true → (k : ℕ) → k < length l → i < get_or l k 0
unfolding rising
above_first i [] e k h = absurd (not-suc-le-zero h)
above_first i (j ∷ l) e zero h = ltb-true i j (and_left (ltb i j) (rising (j ∷ l)) e)
above_first i (j ∷ l) e (suc k) h =
    omega (arith, ltb-true i j (and_left (ltb i j) (rising (j ∷ l)) e), above_first j l (and_right (ltb i j) (rising (j ∷ l)) e) k (le_of_suc-le-suc h))

pub rising_at : (l : List ℕ) → rising l ≡ true → (j k : ℕ) → j < k → k < length l → get_or l j 0 < get_or l k 0
rising_at [] e j k g h = absurd (not-suc-le-zero h)
rising_at (i ∷ l) e j zero g h = absurd (not-suc-le-zero g)
rising_at (i ∷ l) e zero (suc k) g h = above_first i l e k (le_of_suc-le-suc h)
rising_at (i ∷ l) e (suc j) (suc k) g h = rising_at l (rising_tail i l e) j k (le_of_suc-le-suc g) (le_of_suc-le-suc h)

-- ---- what a scan of neighbours answered
each_rises : (l : List ℕ) → AllAdjacentBelow (λ x y. true ≡ ltb x y) l (length l) → true ≡ rising l
unfolding rising
each_rises [] h = refl
each_rises (i ∷ []) h = refl
each_rises (i ∷ j ∷ l) h =
    let rest : (k d : ℕ) → k + 1 < length (j ∷ l) → true ≡ ltb (get_or (j ∷ l) k d) (get_or (j ∷ l) (k + 1) d) =
    λ k d m. let g : true ≡ ltb (get_or (j ∷ l) k d) (get_or (i ∷ j ∷ l) (suc k + 1) d) = h (suc k) d (omega arith) in
    rw add-one (rw add-one at g) in
    rw (← h 0 0 (omega arith)) (each_rises (j ∷ l) rest)

pub rises_so : (l : List ℕ) (r : Bool) → IsAllAdjacentAnswer (λ x y b. b ≡ ltb x y) l r → r ≡ rising l
rises_so l true h = each_rises l h
rises_so l false h =
    let still : (b : Bool) → rising l ≡ b → false ≡ b =
    λ (b : Bool). elim b as (λ (b : Bool). rising l ≡ b → false ≡ b) [ true ↦ λ e. absurd (fails e) | false ↦ λ e. refl ] in
    still (rising l) refl
  where
    fails : rising l ≡ true → ⊥
    fails e = omega (arith, ltb-false _ _ (sym (h.2 0)), rising_at l e h.0 (h.0 + 1) (omega arith) h.1)

-- ---- a proper list
module _ (s : Set) (l : List ℕ) (proper : proper_list s l ≡ true) where
  pub proper_count : length l ≡ kappa_of s
  unfolding proper_list
  proper_count = eqb-true _ _ (and_left _ _ proper)

  order : rising l && every is_place l ≡ true
  unfolding proper_list
  order = and_right (eqb (length l) (kappa_of s)) _ proper

  pub proper_rising : (j k : ℕ) → j < k → k < length l → get_or l j 0 < get_or l k 0
  proper_rising = rising_at l (and_left _ _ order)

  pub proper_place : (k : ℕ) → k < length l → get_or l k 0 < dimension
  proper_place k h = ltb-true _ _ (every_at is_place l k 0 (and_right (rising l) _ order) h)

  pub proper_rises : rising l ≡ true
  proper_rises = and_left (rising l) (every is_place l) order

  pub proper_places : every is_place l ≡ true
  proper_places = and_right (rising l) (every is_place l) order
