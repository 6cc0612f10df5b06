-- c' is 1 or -1 at the listed places and 0 elsewhere (01, "Response"). Assumes nothing.
use mathlib.Core.Path.{◌≡◌, refl, sym, ap, ap₂, ◌∙◌}
use mathlib.Core.Bool.{Bool, true, false, ◌||◌}
use mathlib.Core.List.{List, [], ◌∷◌}
use Prim.Native.Nat.{ℕ, ◌<◌, ◌≤◌}
use native.Mathlib.Omega.{arith}
use borrow.Author.Tests.{ltb-true, eqb-true, eqb-false, ne_eqb}
use lib.Dec.{eqb, ltb}
use lib.IntN.{ℤ, pos, nat_abs, +ℤ_idr}
use lib.ListN.{length, get_or, length-replicate, get_or-replicate}
use lib.Signed.{lt_z}
use Rattle.laws.specs.Lists.{every, zip_with}
use Rattle.laws.proofs.Chain.{and_left, and_right, differ}
use Rattle.sets.specs.Numbers.{dimension}
use Rattle.polynomials.specs.Product.{shift, one}
use Rattle.polynomials.proofs.One.{length-one, power_here, power_elsewhere}
use Rattle.vectors.specs.Places.{is_place, rising, listed}
use Rattle.vectors.proofs.Rising.{rising_tail}
use Rattle.vectors.specs.Pairs.{Pair, pair, inner_pair}
use Rattle.choices.specs.Choices.{column, added_if, choice, chosen, zeros}
use Rattle.choices.specs.Signs.{sum_from, signed_sum, signs}
use Rattle.choices.proofs.Sums.{added_if-length, column_at, first_place, other_places, sums_keep}

-- ---- lists that rise list a place once
rising_after : (i k : ℕ) (l : List ℕ) → rising (i ∷ l) ≡ true → k ≤ i → listed l k ≡ false
unfolding rising listed
rising_after i k [] e h = refl
rising_after i k (j ∷ l) e h =
    let less : i < j = ltb-true i j (and_left (ltb i j) (rising (j ∷ l)) e) in
    rw (ne_eqb j k (λ same. omega arith), rising_after j k l (and_right (ltb i j) (rising (j ∷ l)) e) (omega arith))

neither : (p q : Bool) → p || q ≡ false → (p ≡ false) × (q ≡ false)
neither false q e = (refl, e)
neither true q e = absurd (differ (sym e))

-- ---- the walk that makes c'
added_if-zero : (b : Bool) (z : ℤ) → added_if b z (pos 0) ≡ z
added_if-zero true z = +ℤ_idr z
added_if-zero false z = +ℤ_idr z

added_if-one : (b : Bool) → nat_abs (added_if b (pos 0) (pos 1)) ≡ 1
added_if-one true = refl
added_if-one false = refl

module _ (s : Pair) (k : ℕ) (inside : k < dimension) where
  module _ (b : Bool) (i : ℕ) (place : i < dimension) (x : List ℤ) (lx : length x ≡ dimension) where
    -- x^i changes place i alone
    elsewhere : eqb i k ≡ false → get_or (zip_with (added_if b) x (shift i one)) k (pos 0) ≡ get_or x k (pos 0)
    elsewhere other =
        column_at b i x one lx length-one k ∙ ap (added_if b (get_or x k (pos 0))) (power_elsewhere i k place inside (eqb-false i k other))
        ∙ added_if-zero b (get_or x k (pos 0))

    here : eqb i k ≡ true → get_or x k (pos 0) ≡ pos 0 → nat_abs (get_or (zip_with (added_if b) x (shift i one)) k (pos 0)) ≡ 1
    here same e =
        let at : get_or (shift i one) k (pos 0) ≡ pos 1 = rw (sym (eqb-true i k same)) (power_here i place) in
        ap nat_abs (column_at b i x one lx length-one k ∙ ap₂ (added_if b) e at) ∙ added_if-one b

  -- a place that is not listed keeps its entry
  kept : (l : List ℕ) → every is_place l ≡ true → listed l k ≡ false → (v : Pair) (x : List ℤ) → length x ≡ dimension
      → get_or (sum_from s l v one x) k (pos 0) ≡ get_or x k (pos 0)
  unfolding sum_from listed
  kept [] e n v x lx = refl
  kept (i ∷ l) e n v x lx =
      let b = lt_z (inner_pair v (column i s)) (pos 0) in
      kept l (other_places i l e) (neither (eqb i k) (listed l k) n).1 (chosen v (column i s)) (zip_with (choice v (column i s)) x (shift i one))
      (added_if-length b i x one lx length-one)
      ∙ elsewhere b i (first_place i l e) x lx (neither (eqb i k) (listed l k) n).0

  -- a place that is listed once gets 1 or -1
  marked : (l : List ℕ) → every is_place l ≡ true → rising l ≡ true → listed l k ≡ true → (v : Pair) (x : List ℤ) → length x ≡ dimension
      → get_or x k (pos 0) ≡ pos 0 → nat_abs (get_or (sum_from s l v one x) k (pos 0)) ≡ 1
  unfolding sum_from listed
  marked [] e r n v x lx z = absurd (differ n)
  marked (i ∷ l) e r n v x lx z =
      pick (eqb i k) refl n (λ m. marked l (other_places i l e) (rising_tail i l r) m (chosen v (column i s)) next (added_if-length b i x one lx length-one))
    where
      b : Bool
      b = lt_z (inner_pair v (column i s)) (pos 0)

      next : List ℤ
      next = zip_with (choice v (column i s)) x (shift i one)

      place : i < dimension
      place = first_place i l e

      pick : (c : Bool) → eqb i k ≡ c → c || listed l k ≡ true
          → (listed l k ≡ true → get_or next k (pos 0) ≡ pos 0 → nat_abs (get_or (sum_from s l (chosen v (column i s)) one next) k (pos 0)) ≡ 1)
          → nat_abs (get_or (sum_from s l (chosen v (column i s)) one next) k (pos 0)) ≡ 1
      pick true same n rest =
          let after : listed l k ≡ false = rising_after i k l r (omega (arith, eqb-true i k same)) in
          ap nat_abs (kept l (other_places i l e) after (chosen v (column i s)) next (added_if-length b i x one lx length-one)) ∙ here b i place x lx same z
      pick false other n rest = rest n (elsewhere b i place x lx other ∙ z)

module _ (s : Pair) (l : List ℕ) (places : every is_place l ≡ true) where
  -- c' has 512 entries
  pub length_signs : length (signs s l) ≡ dimension
  unfolding signs
  length_signs =
      sums_keep one one (λ n x y. length x ≡ dimension) (λ b n i x y h lx. added_if-length b i x one lx length-one) s l places
      (length-replicate dimension (pos 0))

module _ (s : Pair) (l : List ℕ) (places : every is_place l ≡ true) (k : ℕ) (inside : k < dimension) where
  -- c' is 1 or -1 at the listed places of a list that rises
  pub signs_listed : rising l ≡ true → listed l k ≡ true → nat_abs (get_or (signs s l) k (pos 0)) ≡ 1
  unfolding signs signed_sum
  signs_listed r n =
      marked s k inside l places r n (pair zeros zeros) zeros (length-replicate dimension (pos 0)) (get_or-replicate dimension k (pos 0) (pos 0) inside)

  -- and 0 elsewhere
  pub signs_elsewhere : listed l k ≡ false → get_or (signs s l) k (pos 0) ≡ pos 0
  unfolding signs signed_sum
  signs_elsewhere n =
      kept s k inside l places n (pair zeros zeros) zeros (length-replicate dimension (pos 0)) ∙ get_or-replicate dimension k (pos 0) (pos 0) inside
