-- The entries and the lengths of vectors that are joined, mapped or given by a rule. Assumes nothing.
use mathlib.Core.Path.{◌≡◌, refl, sym, ap, ◌∙◌}
use mathlib.Core.Bool.{Bool, true, ◌&&◌}
use mathlib.Core.List.{List, [], ◌∷◌, ◌++◌, map}
use Prim.Native.Nat.{ℕ, zero, suc, ◌+◌, ◌<◌}
use native.Mathlib.Nat.{not-suc-le-zero, le_of_suc-le-suc, suc_inj, suc-ne-zero}
use native.Mathlib.Omega.{arith}
use lib.ListN.{length, get_or}
use lib.Seq.{ext_get_or}
use Rattle.laws.specs.Lists.{every, zip_with, tabulate}
use Rattle.laws.proofs.Chain.{and_left, and_right}

module _ {A B C : Type 0} (f : A → B → C) where
  pub length-zip_with : (xs : List A) (ys : List B) → length xs ≡ length ys → length (zip_with f xs ys) ≡ length xs
  unfolding zip_with
  length-zip_with [] ys e = refl
  length-zip_with (x ∷ xs) [] e = sym e
  length-zip_with (x ∷ xs) (y ∷ ys) e = ap suc (length-zip_with xs ys (suc_inj e))

  pub get_or-zip_with : (xs : List A) (ys : List B) (k : ℕ) (a : A) (b : B) (c : C) → k < length xs → k < length ys
      → get_or (zip_with f xs ys) k c ≡ f (get_or xs k a) (get_or ys k b)
  unfolding zip_with
  get_or-zip_with [] ys k a b c h j = absurd (not-suc-le-zero h)
  get_or-zip_with (x ∷ xs) [] k a b c h j = absurd (not-suc-le-zero j)
  get_or-zip_with (x ∷ xs) (y ∷ ys) zero a b c h j = refl
  get_or-zip_with (x ∷ xs) (y ∷ ys) (suc k) a b c h j = get_or-zip_with xs ys k a b c (le_of_suc-le-suc h) (le_of_suc-le-suc j)

  -- the values where there is no entry are joined too
  pub get_or-zip_with_anywhere : (xs : List A) (ys : List B) (k : ℕ) (a : A) (b : B) → length xs ≡ length ys
      → get_or (zip_with f xs ys) k (f a b) ≡ f (get_or xs k a) (get_or ys k b)
  unfolding zip_with
  get_or-zip_with_anywhere [] [] k a b e = refl
  get_or-zip_with_anywhere [] (y ∷ ys) k a b e = absurd (suc-ne-zero (length ys) (sym e))
  get_or-zip_with_anywhere (x ∷ xs) [] k a b e = absurd (suc-ne-zero (length xs) e)
  get_or-zip_with_anywhere (x ∷ xs) (y ∷ ys) zero a b e = refl
  get_or-zip_with_anywhere (x ∷ xs) (y ∷ ys) (suc k) a b e = get_or-zip_with_anywhere xs ys k a b (suc_inj e)

  pub zip_with-append : (xs xs' : List A) (ys ys' : List B) → length xs ≡ length ys
      → zip_with f (xs ++ xs') (ys ++ ys') ≡ zip_with f xs ys ++ zip_with f xs' ys'
  unfolding zip_with
  zip_with-append [] xs' [] ys' e = refl
  zip_with-append [] xs' (y ∷ ys) ys' e = absurd (suc-ne-zero (length ys) (sym e))
  zip_with-append (x ∷ xs) xs' [] ys' e = absurd (suc-ne-zero (length xs) e)
  zip_with-append (x ∷ xs) xs' (y ∷ ys) ys' e = ap (λ (l : List C). f x y ∷ l) (zip_with-append xs xs' ys ys' (suc_inj e))

-- an entry of a mapped vector, whatever stands for no entry
pub get_or-map : {A B : Type 0} (f : A → B) (xs : List A) (k : ℕ) (a : A) (b : B) → k < length xs → get_or (map f xs) k b ≡ f (get_or xs k a)
get_or-map f [] k a b h = absurd (not-suc-le-zero h)
get_or-map f (x ∷ xs) zero a b h = refl
get_or-map f (x ∷ xs) (suc k) a b h = get_or-map f xs k a b (le_of_suc-le-suc h)

module _ {A : Type 0} where
  pub length-tabulate : (rule : ℕ → A) (n : ℕ) → length (tabulate rule n) ≡ n
  unfolding tabulate
  length-tabulate rule zero = refl
  length-tabulate rule (suc n) = ap suc (length-tabulate (λ i. rule (suc i)) n)

  pub get_or-tabulate : (rule : ℕ → A) (n k : ℕ) (d : A) → k < n → get_or (tabulate rule n) k d ≡ rule k
  unfolding tabulate
  get_or-tabulate rule zero k d h = absurd (not-suc-le-zero h)
  get_or-tabulate rule (suc n) zero d h = refl
  get_or-tabulate rule (suc n) (suc k) d h = get_or-tabulate (λ i. rule (suc i)) n k d (le_of_suc-le-suc h)

  -- a vector that has the rule's entries is the rule's
  pub is_tabulate : (rule : ℕ → A) (n : ℕ) (d : A) (l : List A) → length l ≡ n → ((k : ℕ) → k < n → get_or l k d ≡ rule k) → l ≡ tabulate rule n
  is_tabulate rule n d l len at =
      ext_get_or d l (tabulate rule n) (len ∙ sym (length-tabulate rule n))
      (λ k h. let h' : k < n = omega arith in at k h' ∙ sym (get_or-tabulate rule n k d h'))

  -- ---- tests of every entry
  module _ (test : A → Bool) where
    pub every_at : (xs : List A) (k : ℕ) (d : A) → every test xs ≡ true → k < length xs → test (get_or xs k d) ≡ true
    unfolding every
    every_at [] k d e h = absurd (not-suc-le-zero h)
    every_at (x ∷ xs) zero d e h = and_left (test x) (every test xs) e
    every_at (x ∷ xs) (suc k) d e h = every_at xs k d (and_right (test x) (every test xs) e) (le_of_suc-le-suc h)

    -- the value where there is no entry passes too
    pub every_anywhere : (xs : List A) (k : ℕ) (d : A) → every test xs ≡ true → test d ≡ true → test (get_or xs k d) ≡ true
    unfolding every
    every_anywhere [] k d e h = h
    every_anywhere (x ∷ xs) zero d e h = and_left (test x) (every test xs) e
    every_anywhere (x ∷ xs) (suc k) d e h = every_anywhere xs k d (and_right (test x) (every test xs) e) h

    pub every_of : (xs : List A) (d : A) → ((k : ℕ) → k < length xs → test (get_or xs k d) ≡ true) → every test xs ≡ true
    unfolding every
    every_of [] d h = refl
    every_of (x ∷ xs) d h = both (h 0 (omega arith)) (every_of xs d (λ k j. h (suc k) (omega arith)))
      where
        both : {p q : Bool} → p ≡ true → q ≡ true → p && q ≡ true
        both e f = rw (e, f)
