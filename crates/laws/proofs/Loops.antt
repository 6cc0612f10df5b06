-- What a loop over a vector has done once it has passed i entries: it rewrites them (`Rewritten`), scans them, or
-- compares them with another's. Assumes nothing.
use mathlib.Core.Path.{◌≡◌, refl, sym, ap, ap₂, ◌∙◌}
use mathlib.Core.Bool.{Bool, true, false, ◌&&◌, and-true, and-false}
use mathlib.Core.List.{List, [], ◌∷◌, ◌++◌, append-nil}
use Prim.Native.Nat.{ℕ, zero, suc, ◌+◌, ◌<◌, ◌≤◌}
use native.Mathlib.Nat.{not-suc-le-zero, le_of_suc-le-suc, suc_inj, suc-ne-zero}
use native.Mathlib.Numerals.{add-one}
use native.Mathlib.Omega.{arith}
use borrow.Author.Tests.{eq-eqb, ne_eqb, eqb-true}
use lib.Dec.{eqb}
use lib.ListN.{length, take, drop, get_or, set as update, length-set, drop_of_length-le}
use lib.Seq.{take_all, drop-cons}
use Rattle.laws.specs.Lists.{every, same}
use Rattle.laws.proofs.Chain.{differ, and_left, and_right}

-- ---- rewriting: l is being replaced by w from the left; the first i entries are w's, and the others are l's still
module _ {A : Type 0} where
  abbrev pub swept : List A → List A → ℕ → List A
  swept l w i = take i w ++ drop i l

  kept_at : (l w : List A) (i : ℕ) (d : A) → i < length l → length w ≡ length l → get_or (swept l w i) i d ≡ get_or l i d
  kept_at [] w i d h e = absurd (not-suc-le-zero h)
  kept_at (x ∷ l) w zero d h e = refl
  kept_at (x ∷ l) [] (suc i) d h e = absurd (suc-ne-zero (length l) (sym e))
  kept_at (x ∷ l) (y ∷ w) (suc i) d h e = kept_at l w i d (le_of_suc-le-suc h) (suc_inj e)

  set_at : (l w : List A) (i : ℕ) (d : A) → i < length l → length w ≡ length l → update (swept l w i) i (get_or w i d) ≡ swept l w (suc i)
  set_at [] w i d h e = absurd (not-suc-le-zero h)
  set_at (x ∷ l) [] i d h e = absurd (suc-ne-zero (length l) (sym e))
  set_at (x ∷ l) (y ∷ w) zero d h e = refl
  set_at (x ∷ l) (y ∷ w) (suc i) d h e = ap (λ (r : List A). y ∷ r) (set_at l w i d (le_of_suc-le-suc h) (suc_inj e))

  pub record Rewritten (l w : List A) (i : ℕ) (now : List A) : Type 0 where
    pub long : length now ≡ length l
    pub is : now ≡ swept l w i

  module _ (l w : List A) (same : length w ≡ length l) where
    pub start : Rewritten l w 0 l
    start = record { long = refl; is = refl }

    module _ {i : ℕ} {now : List A} (so : Rewritten l w i now) where
      -- the entry that is replaced next is as it was
      pub next_is : (d : A) → i < length l → get_or now i d ≡ get_or l i d
      next_is d h = ap (λ (r : List A). get_or r i d) so.is ∙ kept_at l w i d h same

      pub more : (d x : A) → i < length l → x ≡ get_or w i d → Rewritten l w (i + 1) (update now i x)
      more d x h e =
          record {
            long = length-set now i x ∙ so.long;
            is = rw add-one (ap (λ (y : A). update now i y) e ∙ ap (λ (r : List A). update r i (get_or w i d)) so.is ∙ set_at l w i d h same);
          }

      pub finish : length l ≤ i → now ≡ w
      finish h =
          let k : length w ≤ i = omega arith in
          so.is ∙ ap (λ (r : List A). take i w ++ r) (drop_of_length-le l h) ∙ append-nil (take i w) ∙ take_all i w k

-- ---- scanning: a test of the whole holds where a flag, which tells of what is passed, holds and the test of what is left. A loop that leaves at the first
-- failure has `true` for its flag.
module _ {A : Type 0} (test : A → Bool) (d : A) (xs : List A) (i : ℕ) (all : Bool) (so : every test xs ≡ all && every test (drop i xs)) where
  module _ {now : Bool} (h : i < length xs) where
    pub scan_fails : test (get_or xs i d) ≡ false → now ≡ false → every test xs ≡ now && every test (drop (i + 1) xs)
    unfolding every
    scan_fails e k = so ∙ rw (drop-cons xs i d, e, k) (and-false all)

    pub scan_passes : test (get_or xs i d) ≡ true → now ≡ all → every test xs ≡ now && every test (drop (i + 1) xs)
    unfolding every
    scan_passes e k = so ∙ rw (add-one, drop-cons xs i d, e, k)

  pub scan_ends : length xs ≤ i → all ≡ every test xs
  unfolding every
  scan_ends h = sym (so ∙ rw (drop_of_length-le xs h) (and-true all))

-- ---- comparing: two vectors are the same where the flag holds and what is left of them is the same
module _ (xs ys : List ℕ) (long : length xs ≡ length ys) (i : ℕ) (all : Bool) (so : same xs ys ≡ all && same (drop i xs) (drop i ys)) where
  module _ {now : Bool} (h : i < length xs) where
    pub same_fails : (get_or xs i 0 ≡ get_or ys i 0 → ⊥) → now ≡ false → same xs ys ≡ now && same (drop (i + 1) xs) (drop (i + 1) ys)
    unfolding same
    same_fails n k =
        let j : i < length ys = omega arith in
        so ∙ rw (drop-cons xs i 0, drop-cons ys i 0, ne_eqb _ _ n, k) (and-false all)

    pub same_passes : get_or xs i 0 ≡ get_or ys i 0 → now ≡ all → same xs ys ≡ now && same (drop (i + 1) xs) (drop (i + 1) ys)
    unfolding same
    same_passes e k =
        let j : i < length ys = omega arith in
        so ∙ rw (add-one, drop-cons xs i 0, drop-cons ys i 0, eq-eqb _ _ e, k)

  pub same_ends : length xs ≤ i → all ≡ same xs ys
  unfolding same
  same_ends h =
      let k : length ys ≤ i = omega arith in
      sym (so ∙ rw (drop_of_length-le xs h, drop_of_length-le ys k) (and-true all))

-- what the test says
pub same_is : (xs ys : List ℕ) → same xs ys ≡ true → xs ≡ ys
unfolding same
same_is [] [] e = refl
same_is [] (y ∷ ys) e = absurd (differ e)
same_is (x ∷ xs) [] e = absurd (differ e)
same_is (x ∷ xs) (y ∷ ys) e =
    ap₂ ◌∷◌ (eqb-true x y (and_left (eqb x y) (same xs ys) e)) (same_is xs ys (and_right (eqb x y) (same xs ys) e))

pub is_same : (xs : List ℕ) → same xs xs ≡ true
unfolding same
is_same [] = refl
is_same (x ∷ xs) = rw (eq-eqb x x refl) (is_same xs)
