-- An inner product of 512 entries made in 128 sums, to each of which the products of a quarter are added in turn. Assumes nothing.
use mathlib.Core.Path.{◌≡◌, refl, sym, ap, ap₂, subst, ◌∙◌}
use mathlib.Core.List.{List, [], ◌∷◌}
use Prim.Native.Nat.{ℕ, ◌+◌, ◌*◌, ◌<◌, ◌≤◌}
use native.Mathlib.Nat.{suc_inj, suc-ne-zero, add-mul}
use native.Mathlib.Omega.{arith}
use lib.IntN.{ℤ, pos, nat_abs, ◌+ℤ◌, ◌*ℤ◌, +ℤ_assoc}
use lib.ListN.{length, get_or, take, drop, replicate, get_or-replicate, length-drop}
use lib.Seq.{get_or-take, get_or-drop, length-take-le, take-add}
use Rattle.laws.specs.Integers.{sumℤ}
use Rattle.laws.specs.Lists.{zip_with}
use Rattle.laws.proofs.Bounds.{abs_add, abs_mul}
use Rattle.laws.proofs.Entries.{length-zip_with, get_or-zip_with}
use Rattle.sets.specs.Numbers.{dimension}
use Rattle.polynomials.proofs.Operations.{plus, linear_medial}
use Rattle.vectors.specs.Vectors.{inner}
use Rattle.vectors.proofs.Sums.{inner_append}
use Rattle.vectors.specs.Pairs.{Pair}
use Rattle.choices.proofs.Pairs.{Sized}

-- ---- inner products in parts

-- the entries of a quarter
abbrev pub part : ℕ → List ℤ → List ℤ
part start x = take 128 (drop start x)

part_long : (start : ℕ) → start + 128 ≤ dimension → (x : List ℤ) → length x ≡ dimension → length (part start x) ≡ 128
part_long start inside x lx = length-take-le 128 (drop start x) (omega (arith, length-drop start x))

part_at : (start : ℕ) (x : List ℤ) (k : ℕ) → k < 128 → get_or (part start x) k (pos 0) ≡ get_or x (start + k) (pos 0)
part_at start x k h = get_or-take 128 (drop start x) k (pos 0) h ∙ get_or-drop start x k (pos 0)

module _ (a b : List ℤ) (la : length a ≡ dimension) (lb : length b ≡ dimension) (start : ℕ) (inside : start + 128 ≤ dimension) where
  inner_parts : inner (take (start + 128) a) (take (start + 128) b) ≡ inner (take start a) (take start b) +ℤ inner (part start a) (part start b)
  inner_parts =
      rw (take-add start 128 a, take-add start 128 b)
      (inner_append (take start a) (take start b) (part start a) (part start b)
      (length-take-le start a (omega arith) ∙ sym (length-take-le start b (omega arith))))

-- ---- the sums
-- the total of the sums after a gather is the total before and the inner product of the parts
total_gather : (s a b : List ℤ) → length a ≡ length s → length b ≡ length s
    → sumℤ (λ k. get_or (zip_with ◌+ℤ◌ s (zip_with ◌*ℤ◌ a b)) k (pos 0)) (length s) ≡ sumℤ (λ k. get_or s k (pos 0)) (length s) +ℤ inner a b
unfolding sumℤ zip_with inner
total_gather [] [] b la lb = refl
total_gather [] (y ∷ a) b la lb = absurd (suc-ne-zero (length a) la)
total_gather (x ∷ s) [] b la lb = absurd (suc-ne-zero (length s) (sym la))
total_gather (x ∷ s) (y ∷ a) [] la lb = absurd (suc-ne-zero (length s) (sym lb))
total_gather (x ∷ s) (y ∷ a) (z ∷ b) la lb =
    ap (λ (r : ℤ). (x +ℤ y *ℤ z) +ℤ r) (total_gather s a b (suc_inj la) (suc_inj lb)) ∙ linear_medial plus plus x (y *ℤ z) _ (inner a b)

-- the sums after a gather
abbrev pub more_products : List ℤ → List ℤ → List ℤ → List ℤ
more_products s a b = zip_with ◌+ℤ◌ s (zip_with ◌*ℤ◌ a b)

module _ (s a b : List ℤ) (ls : length s ≡ 128) (la : length a ≡ 128) (lb : length b ≡ 128) where
  products_long : length (zip_with ◌*ℤ◌ a b) ≡ 128
  products_long = length-zip_with ◌*ℤ◌ a b (la ∙ sym lb) ∙ la

  pub length_more : length (more_products s a b) ≡ length s
  length_more = length-zip_with ◌+ℤ◌ s _ (ls ∙ sym products_long)

  -- each sum has one product more
  pub more_at : (k : ℕ) → k < 128 → get_or (more_products s a b) k (pos 0) ≡ get_or s k (pos 0) +ℤ get_or a k (pos 0) *ℤ get_or b k (pos 0)
  more_at k h =
      get_or-zip_with ◌+ℤ◌ s _ k (pos 0) (pos 0) (pos 0) (omega arith) (omega (arith, products_long))
      ∙ ap (λ (z : ℤ). get_or s k (pos 0) +ℤ z) (get_or-zip_with ◌*ℤ◌ a b k (pos 0) (pos 0) (pos 0) (omega arith) (omega arith))

-- over a quarter of a and of b
abbrev pub gathered : List ℤ → List ℤ → List ℤ → ℕ → List ℤ
gathered s a b start = more_products s (part start a) (part start b)

-- ---- the sums with n products each, of at most a bound
pub record Gathered (bound n : ℕ) (whole : ℤ) (sums : List ℤ) : Type 0 where
  pub long : length sums ≡ 128
  pub small : (k : ℕ) → k < 128 → nat_abs (get_or sums k (pos 0)) ≤ n * bound
  pub is : sumℤ (λ k. get_or sums k (pos 0)) 128 ≡ whole

-- none yet
pub gathered_none : (bound : ℕ) → Gathered bound 0 (pos 0) (replicate 128 (pos 0))
unfolding sumℤ
gathered_none bound = record { long = refl; small = λ k h. omega (arith, ap nat_abs (get_or-replicate 128 k (pos 0) (pos 0) h)); is = refl }

pub gathered_as : {bound n m : ℕ} {whole whole' : ℤ} {s : List ℤ} → Gathered bound n whole s → n ≡ m → whole ≡ whole' → Gathered bound m whole' s
gathered_as so e f = rw (← e, ← f) so

-- one more
module _ {bound n : ℕ} {whole : ℤ} {s : List ℤ} (so : Gathered bound n whole s) (a b : List ℤ) (la : length a ≡ dimension) (lb : length b ≡ dimension)
    (products : (k : ℕ) → nat_abs (get_or a k (pos 0)) * nat_abs (get_or b k (pos 0)) ≤ bound) (start : ℕ) (inside : start + 128 ≤ dimension) where
  abbrev x : List ℤ
  x = part start a

  abbrev y : List ℤ
  y = part start b

  lx : length x ≡ 128
  lx = part_long start inside a la

  ly : length y ≡ 128
  ly = part_long start inside b lb

  -- what gather requires
  pub products_part : (k : ℕ) → k < 128 → nat_abs (get_or x k (pos 0)) * nat_abs (get_or y k (pos 0)) ≤ bound
  products_part k h = rw (part_at start a k h, part_at start b k h) (products (start + k))

  next : Gathered bound (n + 1) (whole +ℤ inner (part start a) (part start b)) (gathered s a b start)
  next =
      record {
        long = length_more s x y so.long lx ly ∙ so.long;
        small = λ k h. omega (
          arith,
          ap nat_abs (more_at s x y so.long lx ly k h),
          abs_add (get_or s k (pos 0)) (get_or x k (pos 0) *ℤ get_or y k (pos 0)),
          abs_mul (get_or x k (pos 0)) (get_or y k (pos 0)),
          so.small k h,
          products_part k h,
          add-mul n 1 bound,
        );
        is = subst (λ (m : ℕ). sumℤ (λ k. get_or (gathered s a b start) k (pos 0)) m ≡ sumℤ (λ k. get_or s k (pos 0)) m +ℤ inner (part start a) (part start b)) so.long
            (total_gather s x y (lx ∙ sym so.long) (ly ∙ sym so.long))
            ∙ ap (λ (z : ℤ). z +ℤ inner (part start a) (part start b)) so.is;
      }

  pub gathered_more : {new : List ℤ} → new ≡ gathered s a b start → Gathered bound (n + 1) (whole +ℤ inner (part start a) (part start b)) new
  gathered_more e = rw e next

-- ---- both halves
-- the inner product of the entries in front of a start
abbrev pub front : Pair → Pair → ℕ → ℤ
front x c start = inner (take start x.first) (take start c.first) +ℤ inner (take start x.second) (take start c.second)

module _ (x c : Pair) (hx : Sized x) (hc : Sized c) where
  pub front_more : (start : ℕ) → start + 128 ≤ dimension
      → front x c start +ℤ inner (part start x.first) (part start c.first) +ℤ inner (part start x.second) (part start c.second) ≡ front x c (start + 128)
  front_more start inside =
      let first = inner (take start x.first) (take start c.first) in
      let second = inner (take start x.second) (take start c.second) in
      +ℤ_assoc (front x c start) (inner (part start x.first) (part start c.first)) (inner (part start x.second) (part start c.second))
      ∙ linear_medial plus plus first second (inner (part start x.first) (part start c.first)) (inner (part start x.second) (part start c.second))
      ∙ ap₂ ◌+ℤ◌ (sym (inner_parts x.first c.first hx.first hc.first start inside)) (sym (inner_parts x.second c.second hx.second hc.second start inside))
