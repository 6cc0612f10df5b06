-- Products made row by row, over any numbers: lengths, and what passes through them. Over whole numbers such a product is the product by sums of
-- `specs/Product.antt`, and it commutes with x and with linear operations. Assumes nothing.
use mathlib.Core.Path.{◌≡◌, refl, sym, ap, ap₂, ◌∙◌}
use mathlib.Core.Bool.{Bool, true, false}
use mathlib.Core.List.{List, [], ◌∷◌, ◌++◌, map, append_assoc}
use Prim.Native.Nat.{ℕ, zero, suc, ◌+◌, ◌-◌, ◌<◌, ◌≤◌}
use native.Mathlib.Nat.{sub-zero, not-suc-le-zero}
use native.Mathlib.Omega.{arith}
use borrow.Author.Tests.{leb-true, leb-false}
use lib.Dec.{leb, leb-zero}
use lib.IntN.{ℤ, pos, neg_ℤ, ◌+ℤ◌, ◌*ℤ◌}
use lib.ListN.{length, take, drop, get_or, replicate, length-map, length-append, length-replicate, get_or-replicate, replicate-append-replicate, get_or-map}
use lib.Seq.{length-take-le, take-suc, take_at, drop-cons, get_or_at, get_or-take}
use Rattle.laws.specs.Integers.{sumℤ}
use Rattle.laws.specs.Lists.{zip_with}
use Rattle.laws.proofs.Entries.{length-zip_with, get_or-zip_with, is_tabulate}
use Rattle.laws.proofs.Pointwise.{map-take, map-zip_with, take-zip_with, zip_with-replicate, zip_with_medial}
use Rattle.polynomials.specs.Product.{wrapped, coefficient, times}
use Rattle.polynomials.specs.Field.{turned, by_rows}
use Rattle.polynomials.proofs.Operations.{Linear, row, row_linear, linear_zero, linear_neg, linear_medial}

-- ---- x times a vector
module _ {A : Type 0} (back : A → A) (none : A) where
  -- x keeps the length
  pub length_turned : (h : List A) → 0 < length h → length (turned back none h) ≡ length h
  unfolding turned
  length_turned h p = omega (arith, length-take-le (length h - 1) h (omega arith))

  -- x times a vector that ends in c
  pub turned_last : (c : A) (l : List A) → turned back none (l ++ (c ∷ [])) ≡ back c ∷ l
  unfolding turned
  turned_last c l =
      let n : length (l ++ (c ∷ [])) - 1 ≡ length l = omega (arith, length-append l (c ∷ [])) in
      ap₂ (λ (y : A) (r : List A). back y ∷ r)
      (ap (λ (m : ℕ). get_or (l ++ (c ∷ [])) m none) n ∙ get_or_at l c [] none (length l) refl)
      (ap (λ (m : ℕ). take m (l ++ (c ∷ []))) n ∙ take_at l (c ∷ []) (length l) refl)

  -- one entry more goes to the front
  pub turned_more : (n : ℕ) (s : List A) → n < length s → map back (drop n s) ++ take n s ≡ turned back none (map back (drop (suc n) s) ++ take (suc n) s)
  turned_more n s h =
      let c = get_or s n none in
      let front = map back (drop (suc n) s) in
      ap (λ (l : List A). map back l ++ take n s) (drop-cons s n none h)
      ∙ sym (ap (turned back none) (ap (λ (l : List A). front ++ l) (take-suc s n none h) ∙ sym (append_assoc front (take n s) (c ∷ [])))
      ∙ turned_last c (front ++ take n s))

  -- what passes through `back` passes through x
  pub turned_zip_with : (o : A → A → A) → ((x y : A) → back (o x y) ≡ o (back x) (back y)) → (a b : List A) → length a ≡ length b → 0 < length a
      → turned back none (zip_with o a b) ≡ zip_with o (turned back none a) (turned back none b)
  unfolding turned zip_with
  turned_zip_with o h a b e p =
      let n = length a - 1 in
      ap (λ (m : ℕ). back (get_or (zip_with o a b) (m - 1) none) ∷ take (m - 1) (zip_with o a b)) (length-zip_with o a b e)
      ∙ ap₂ ◌∷◌ (ap back (get_or-zip_with o a b n none none none (omega arith) (omega arith)) ∙ h (get_or a n none) (get_or b n none)) (take-zip_with o n a b)
      ∙ ap (λ (m : ℕ). o (back (get_or a n none)) (back (get_or b (m - 1) none)) ∷ zip_with o (take n a) (take (m - 1) b)) e

  -- a product is as long as its second operand
  pub length-by_rows : (row : A → A → A → A) (f g : List A) → 0 < length g → length (by_rows row back none f g) ≡ length g
  unfolding by_rows
  length-by_rows row [] g p = length-replicate (length g) none
  length-by_rows row (a ∷ f) g p =
      let rest = length-by_rows row f g p in
      length-zip_with (row a) g _ (sym (length_turned (by_rows row back none f g) (omega arith) ∙ rest))

-- a map that takes the parts of a product to those of another takes the product to the other
module _ {A B : Type 0} (r : A → B) (back : A → A) (back' : B → B) (none : A) (returns : (x : A) → r (back x) ≡ back' (r x)) where
  pub map_turned : (h : List A) → map r (turned back none h) ≡ turned back' (r none) (map r h)
  unfolding turned
  map_turned h =
      ap₂ ◌∷◌ (returns (get_or h (length h - 1) none) ∙ ap back' (sym (get_or-map r h (length h - 1) none))) (map-take r (length h - 1) h)
      ∙ ap (λ (n : ℕ). back' (get_or (map r h) (n - 1) (r none)) ∷ take (n - 1) (map r h)) (sym (length-map h r))

  pub map-by_rows : (row : A → A → A → A) (row' : B → B → B → B) → ((a y z : A) → r (row a y z) ≡ row' (r a) (r y) (r z)) → (f g : List A)
      → map r (by_rows row back none f g) ≡ by_rows row' back' (r none) (map r f) (map r g)
  unfolding by_rows
  map-by_rows row row' h [] [] = refl
  map-by_rows row row' h [] (x ∷ g) = ap (λ (l : List B). r none ∷ l) (map-by_rows row row' h [] g)
  map-by_rows row row' h (a ∷ f) g =
      map-zip_with (row a) (row' (r a)) r r r (h a) g (turned back none (by_rows row back none f g))
      ∙ ap (zip_with (row' (r a)) (map r g)) (map_turned (by_rows row back none f g) ∙ ap (turned back' (r none)) (map-by_rows row row' h f g))

-- ---- over whole numbers

-- x times h, with x^512 = -1
abbrev pub turnℤ : List ℤ → List ℤ
turnℤ h = turned neg_ℤ (pos 0) h

-- f times g
abbrev pub rowsℤ : List ℤ → List ℤ → List ℤ
rowsℤ f g = by_rows row neg_ℤ (pos 0) f g

-- linear in the second operand
module _ {o : ℤ → ℤ → ℤ} (l : Linear o) where
  -- x times a sum, or a difference
  turn_linear : (xs ys : List ℤ) → length xs ≡ length ys → 0 < length xs → turnℤ (zip_with o xs ys) ≡ zip_with o (turnℤ xs) (turnℤ ys)
  turn_linear = turned_zip_with neg_ℤ (pos 0) o (linear_neg l)

  -- f times a sum, or a difference
  pub rows_linear : (f xs ys : List ℤ) → length xs ≡ length ys → 0 < length xs → rowsℤ f (zip_with o xs ys) ≡ zip_with o (rowsℤ f xs) (rowsℤ f ys)
  unfolding by_rows
  rows_linear [] xs ys e p =
      sym (ap (λ (n : ℕ). zip_with o (replicate (length xs) (pos 0)) (replicate n (pos 0))) (sym e)
      ∙ zip_with-replicate o (length xs) (pos 0) (pos 0) ∙ ap₂ replicate (sym (length-zip_with o xs ys e)) (linear_zero l))
  rows_linear (a ∷ f) xs ys e p =
      let lx = length-by_rows neg_ℤ (pos 0) row f xs p in
      let ly = length-by_rows neg_ℤ (pos 0) row f ys (omega arith) in
      ap (λ (h : List ℤ). zip_with (row a) (zip_with o xs ys) h)
      (ap turnℤ (rows_linear f xs ys e p) ∙ turn_linear (rowsℤ f xs) (rowsℤ f ys) (lx ∙ e ∙ sym ly) (omega arith))
      ∙ zip_with_medial (row a) o (linear_medial (row_linear a) l) xs ys (turnℤ (rowsℤ f xs)) (turnℤ (rowsℤ f ys))

-- x times a vector that ends in 0
pub turn_padded : (f : List ℤ) (n : ℕ) → turnℤ (f ++ replicate (suc n) (pos 0)) ≡ pos 0 ∷ (f ++ replicate n (pos 0))
turn_padded f n =
    let more : suc n ≡ n + 1 = omega arith in
    ap turnℤ (ap (λ (l : List ℤ). f ++ l) (ap (λ (m : ℕ). replicate m (pos 0)) more ∙ sym (replicate-append-replicate n 1 (pos 0)))
    ∙ sym (append_assoc f (replicate n (pos 0)) (pos 0 ∷ [])))
    ∙ turned_last neg_ℤ (pos 0) (pos 0) (f ++ replicate n (pos 0))

-- x passes out of the second operand
pub rows_turn : (f g : List ℤ) → 0 < length g → rowsℤ f (turnℤ g) ≡ turnℤ (rowsℤ f g)
unfolding by_rows
rows_turn [] [] p = absurd (not-suc-le-zero p)
rows_turn [] (x ∷ g) p = ap (λ (n : ℕ). replicate n (pos 0)) (length_turned neg_ℤ (pos 0) (x ∷ g) p) ∙ sym (turn_padded [] (length g))
rows_turn (a ∷ f) g p =
    let lg = length-by_rows neg_ℤ (pos 0) row f g p in
    ap (λ (h : List ℤ). zip_with (row a) (turnℤ g) (turnℤ h)) (rows_turn f g p)
    ∙ sym (turn_linear (row_linear a) g (turnℤ (rowsℤ f g)) (sym (length_turned neg_ℤ (pos 0) (rowsℤ f g) (omega arith) ∙ lg)) p)

-- f times zero is zero
pub rows_zero : (f : List ℤ) (n : ℕ) → rowsℤ f (replicate (suc n) (pos 0)) ≡ replicate (suc n) (pos 0)
unfolding by_rows
rows_zero [] n = ap (λ (m : ℕ). replicate m (pos 0)) (length-replicate (suc n) (pos 0))
rows_zero (a ∷ f) n =
    ap (λ (h : List ℤ). zip_with (row a) (replicate (suc n) (pos 0)) h) (ap turnℤ (rows_zero f n) ∙ turn_padded [] n)
    ∙ zip_with-replicate (row a) (suc n) (pos 0) (pos 0) ∙ ap (replicate (suc n)) (linear_zero (row_linear a))

-- ---- it is the product by sums

-- sums of the same terms
sum_ext : (t u : ℕ → ℤ) (n : ℕ) → ((i : ℕ) → i < n → t i ≡ u i) → sumℤ t n ≡ sumℤ u n
unfolding sumℤ
sum_ext t u zero h = refl
sum_ext t u (suc n) h = ap₂ ◌+ℤ◌ (h 0 (omega arith)) (sum_ext (λ i. t (suc i)) (λ i. u (suc i)) n (λ i j. h (suc i) (omega arith)))

-- an entry of x times g, but the first
turn_at : (g : List ℤ) (k n : ℕ) → k ≡ suc n → n < length g - 1 → get_or (turnℤ g) k (pos 0) ≡ get_or g n (pos 0)
unfolding turned
turn_at g k n e h = ap (λ (j : ℕ). get_or (turnℤ g) j (pos 0)) e ∙ get_or-take (length g - 1) g n (pos 0) h

-- x^0 times g
wrapped_zero : (g : List ℤ) (k : ℕ) → wrapped g 0 k ≡ get_or g k (pos 0)
unfolding wrapped
wrapped_zero g k = rw (leb-zero k, sub-zero)

-- x^(i + 1) times g is x^i times x g
wrapped_suc : (g : List ℤ) (i k : ℕ) → length g ≡ 512 → i < 512 → k < 512 → wrapped g (suc i) k ≡ wrapped (turnℤ g) i k
unfolding wrapped turned
wrapped_suc g i k e h j = go (leb (suc i) k) (leb i k) refl refl
  where
    go : (b c : Bool) → leb (suc i) k ≡ b → leb i k ≡ c → wrapped g (suc i) k ≡ wrapped (turnℤ g) i k
    go true true p q = rw (p, q, turn_at g (k - i) (k - suc i) (omega (arith, leb-true)) (omega arith))
    go true false p q = absurd (omega (arith, leb-true, leb-false))
    go false true p q =
        let first : k - i ≡ 0 = omega (arith, leb-false) in
        let last : 512 + k - suc i ≡ length g - 1 = omega (arith, leb-true, leb-false) in
        rw (p, q, first, last)
    go false false p q = rw (p, q, turn_at g (512 + k - i) (512 + k - suc i) (omega arith) (omega (arith, leb-false)))

-- an entry of the product by rows is a sum of as many terms as f has
rows_at : (f g : List ℤ) → length f ≤ 512 → length g ≡ 512 → (k : ℕ) → k < 512
    → get_or (rowsℤ f g) k (pos 0) ≡ sumℤ (λ i. get_or f i (pos 0) *ℤ wrapped g i k) (length f)
unfolding by_rows sumℤ
rows_at [] g s e k h = get_or-replicate (length g) k (pos 0) (pos 0) (omega arith)
rows_at (a ∷ f) g s e k h =
    let lr = length-by_rows neg_ℤ (pos 0) row f g (omega arith) in
    let lt = length_turned neg_ℤ (pos 0) (rowsℤ f g) (omega arith) in
    get_or-zip_with (row a) g (turnℤ (rowsℤ f g)) k (pos 0) (pos 0) (pos 0) (omega arith) (omega arith)
    ∙ ap₂ (row a) (sym (wrapped_zero g k))
    (ap (λ (l : List ℤ). get_or l k (pos 0)) (sym (rows_turn f g (omega arith))) ∙ rows_at f (turnℤ g) (omega arith) (length_turned neg_ℤ (pos 0) g (omega arith) ∙ e) k h
    ∙ sum_ext _ _ (length f) (λ i j. ap (λ (z : ℤ). get_or f i (pos 0) *ℤ z) (sym (wrapped_suc g i k e (omega arith) h))))

-- the product by sums is the product by rows
pub times_rows : (a b : List ℤ) → length a ≡ 512 → length b ≡ 512 → times a b ≡ rowsℤ a b
unfolding times coefficient
times_rows a b la lb =
    sym (is_tabulate (coefficient a b) 512 (pos 0) (rowsℤ a b) (length-by_rows neg_ℤ (pos 0) row a b (omega arith) ∙ lb)
    (λ k h. rows_at a b (omega arith) lb k h ∙ ap (sumℤ (λ i. get_or a i (pos 0) *ℤ wrapped b i k)) la))
