use mathlib.Core.Path.{◌≡◌, sym, ◌∙◌, ap, ap₂}
use mathlib.Core.Bool.{true}
use mathlib.Core.List.{List}
use mathlib.Core.Logic.{inl, inr}
use Prim.Native.Nat.{ℕ, ◌+◌, ◌*◌, ◌<◌, ◌≤◌}
use native.Mathlib.Nat.{mul-le-mul}
use native.Mathlib.Omega.{arith}
use borrow.Author.Rules.{rules}
use lib.IntN.{ℤ, pos, nat_abs, ◌+ℤ◌}
use lib.ListN.{length, get_or, take}
use lib.Seq.{take-length}
use mir.Syntax.{w32}
use mir.Val.{SFits}
use mir.Facts.{to_z-of_z}
use Rattle.std.proofs.lemmas.Grind.{common_steps}
use Rattle.laws.specs.Lists.{every}
use Rattle.sets.specs.Numbers.{dimension, list_limit}
use Rattle.vectors.specs.Pairs.{pair}
use Rattle.vectors.specs.Vectors.{within, inner}
use Rattle.vectors.proofs.Ranges.{within_at}
use Rattle.choices.proofs.Quarters.{part, more_products, gathered, products_part, Gathered, front, gathered_none, gathered_more, gathered_as, front_more}
use Rattle.choices.proofs.Chunks.{below, chunk_is, rest_is, ended}
use Rattle.choices.proofs.inner_product.Goals as goal

-- the size of a product of an entry of v and one of a column
abbrev most : ℕ
most = list_limit * 5 * 5

products_small : (v c : List ℤ) → every (within (list_limit * 5)) v ≡ true → every (within 5) c ≡ true
    → (k : ℕ) → nat_abs (get_or v k (pos 0)) * nat_abs (get_or c k (pos 0)) ≤ most
products_small v c h j k = mul-le-mul (within_at (list_limit * 5) v h k) (within_at 5 c j k)

-- with the quarter's products of the first half
halfway : (v1 v2 c1 c2 sums new : List ℤ) (quarter : ℕ) → length v1 ≡ dimension → length c1 ≡ dimension
    → every (within (list_limit * 5)) v1 ≡ true → every (within 5) c1 ≡ true → quarter < 4
    → Gathered most (2 * quarter) (front (pair v1 v2) (pair c1 c2) (128 * quarter)) sums → new ≡ gathered sums v1 c1 (128 * quarter)
    → Gathered most (2 * quarter + 1) (front (pair v1 v2) (pair c1 c2) (128 * quarter) +ℤ inner (part (128 * quarter) v1) (part (128 * quarter) c1)) new
halfway v1 v2 c1 c2 sums new quarter lv lc h j q so e = gathered_more so v1 c1 lv lc (products_small v1 c1 h j) (128 * quarter) (omega arith) e

-- what gather requires of a quarter of each, where fewer than eight products are gathered in each sum
room : (v c x y sums : List ℤ) (quarter n : ℕ) (whole : ℤ) → length v ≡ dimension → length c ≡ dimension
    → every (within (list_limit * 5)) v ≡ true → every (within 5) c ≡ true → quarter < 4 → x ≡ part (128 * quarter) v → y ≡ part (128 * quarter) c → n < 8
    → Gathered most n whole sums → (k : ℕ) → k < 128 → nat_abs (get_or sums k (pos 0)) + nat_abs (get_or x k (pos 0)) * nat_abs (get_or y k (pos 0)) < 32768
room v c x y sums quarter n whole lv lc h j q ex ey few so k less =
    rw (ex, ey) (omega (arith, so.small k less, products_part so v c lv lc (products_small v c h j) (128 * quarter) (omega arith) k less))

-- and what it leaves
left : (v c x y sums new : List ℤ) (start : ℕ) → x ≡ part start v → y ≡ part start c → new ≡ more_products sums x y → new ≡ gathered sums v c start
left v c x y sums new start ex ey e = e ∙ ap₂ (more_products sums) ex ey

whole : (l : List ℤ) → length l ≡ 512 → take 512 l ≡ l
whole l long = ap (λ (m : ℕ). take m l) (sym long) ∙ take-length l

pub loop-x1-init : goal.loop-x1-init
unfolding inner
loop-x1-init c =
    record {
      n = 0;
      sizes = (grind (arith, common_steps), grind (arith, common_steps), grind (arith, common_steps), grind (arith, common_steps));
      rests = (grind (arith, common_steps), grind (arith, common_steps), grind (arith, common_steps), grind (arith, common_steps));
      upto = omega arith;
      gathered = gathered_none most;
    }

pub gather-requires-clause-by_index : goal.gather-requires-clause-by_index
gather-requires-clause-by_index c =
    let a = c.args in
    let w = a.column in
    let so = c.loop-x1.invariant in
    let s = c.in-Some.ensures.steps in
    let lv : length a.v1.now ≡ 512 = omega arith in
    room a.v1.now w.first.now c.in-Some.x1.now c.in-Some.c1.now c.loop-x1.sums so.n (2 * so.n) _ lv w.sized.0 c.requires.0 w.small.0
    (below a.v1.now _ _ _ so.n _ lv so.rests.0 so.sizes.0 s.0.0.1.0 s.0.0.1.1)
    (chunk_is a.v1.now _ _ _ so.n _ lv so.rests.0 so.sizes.0 s.0.0.1.0 s.0.0.1.1)
    (chunk_is w.first.now _ _ _ so.n _ w.sized.0 so.rests.1 so.sizes.1 s.0.1.1.0 s.0.1.1.1)
    (omega (arith, below a.v1.now _ _ _ so.n _ lv so.rests.0 so.sizes.0 s.0.0.1.0 s.0.0.1.1)) so.gathered

pub gather-requires-in-loop-x1-clause-a_len : goal.gather-requires-in-loop-x1-clause-a_len
gather-requires-in-loop-x1-clause-a_len c =
    let so = c.loop-x1.invariant in
    let s = c.in-Some.ensures.steps in
    (s.1.0.1.1 ∙ so.sizes.2, s.1.1.1.1 ∙ so.sizes.3)

pub gather-requires-in-loop-x1-clause-by_index : goal.gather-requires-in-loop-x1-clause-by_index
gather-requires-in-loop-x1-clause-by_index c =
    let a = c.args in
    let w = a.column in
    let so = c.loop-x1.invariant in
    let s = c.in-Some.ensures.steps in
    let n = so.n in
    let l1 : length a.v1.now ≡ 512 = omega arith in
    let l2 : length a.v2.now ≡ 512 = omega arith in
    let q = below a.v1.now _ _ _ n _ l1 so.rests.0 so.sizes.0 s.0.0.1.0 s.0.0.1.1 in
    let x1 = chunk_is a.v1.now _ _ _ n _ l1 so.rests.0 so.sizes.0 s.0.0.1.0 s.0.0.1.1 in
    let c1 = chunk_is w.first.now _ _ _ n _ w.sized.0 so.rests.1 so.sizes.1 s.0.1.1.0 s.0.1.1.1 in
    let x2 = chunk_is a.v2.now _ _ _ n _ l2 so.rests.2 so.sizes.2 s.1.0.1.0 s.1.0.1.1 in
    let c2 = chunk_is w.second.now _ _ _ n _ w.sized.1 so.rests.3 so.sizes.3 s.1.1.1.0 s.1.1.1.1 in
    let half = halfway a.v1.now a.v2.now w.first.now w.second.now _ _ n l1 w.sized.0 c.requires.0 w.small.0 q so.gathered
    (left a.v1.now w.first.now _ _ _ _ (128 * n) x1 c1 c.gather.ensures) in
    room a.v2.now w.second.now _ _ _ n (2 * n + 1) _ l2 w.sized.1 c.requires.1 w.small.1 q x2 c2 (omega (arith, q)) half

pub loop-x1-preserved : goal.loop-x1-preserved
loop-x1-preserved c =
    let a = c.args in
    let w = a.column in
    let so = c.loop-x1.invariant in
    let s = c.in-Some.ensures.steps in
    let n = so.n in
    let l1 : length a.v1.now ≡ 512 = omega arith in
    let l2 : length a.v2.now ≡ 512 = omega arith in
    let q = below a.v1.now _ _ _ n _ l1 so.rests.0 so.sizes.0 s.0.0.1.0 s.0.0.1.1 in
    let x1 = chunk_is a.v1.now _ _ _ n _ l1 so.rests.0 so.sizes.0 s.0.0.1.0 s.0.0.1.1 in
    let c1 = chunk_is w.first.now _ _ _ n _ w.sized.0 so.rests.1 so.sizes.1 s.0.1.1.0 s.0.1.1.1 in
    let x2 = chunk_is a.v2.now _ _ _ n _ l2 so.rests.2 so.sizes.2 s.1.0.1.0 s.1.0.1.1 in
    let c2 = chunk_is w.second.now _ _ _ n _ w.sized.1 so.rests.3 so.sizes.3 s.1.1.1.0 s.1.1.1.1 in
    let half = halfway a.v1.now a.v2.now w.first.now w.second.now _ _ n l1 w.sized.0 c.requires.0 w.small.0 q so.gathered
    (left a.v1.now w.first.now _ _ _ _ (128 * n) x1 c1 c.gather.ensures) in
    let v = pair a.v1.now a.v2.now in
    let x = pair w.first.now w.second.now in
    let next : 128 * n + 128 ≡ 128 * (n + 1) = omega arith in
    record {
      n = n + 1;
      sizes = (s.0.0.0 ∙ so.sizes.0, s.0.1.0 ∙ so.sizes.1, s.1.0.0 ∙ so.sizes.2, s.1.1.0 ∙ so.sizes.3);
      rests = (
        rest_is a.v1.now _ _ _ n _ l1 so.rests.0 so.sizes.0 s.0.0.1.0 s.0.0.1.1,
        rest_is w.first.now _ _ _ n _ w.sized.0 so.rests.1 so.sizes.1 s.0.1.1.0 s.0.1.1.1,
        rest_is a.v2.now _ _ _ n _ l2 so.rests.2 so.sizes.2 s.1.0.1.0 s.1.0.1.1,
        rest_is w.second.now _ _ _ n _ w.sized.1 so.rests.3 so.sizes.3 s.1.1.1.0 s.1.1.1.1,
      );
      upto = omega (arith, q);
      gathered =
          gathered_as
          (gathered_more half a.v2.now w.second.now l2 w.sized.1 (products_small a.v2.now w.second.now c.requires.1 w.small.1) (128 * n) (omega (arith, q))
          (left a.v2.now w.second.now _ _ _ _ (128 * n) x2 c2 c.gather-in-loop-x1.ensures))
          (omega arith)
          (front_more v x (record { first = l1; second = l2 }) (record { first = w.sized.0; second = w.sized.1 }) (128 * n) (omega (arith, q)) ∙ ap (front v x) next);
    }

pub returns : goal.returns
returns c =
    let a = c.args in
    let w = a.column in
    let so = c.loop-x1.invariant in
    let l1 : length a.v1.now ≡ 512 = omega arith in
    let l2 : length a.v2.now ≡ 512 = omega arith in
    let last : 4 ≤ so.n =
    elim c.in-None.ensures.steps [
      | inl h ↦ elim h.1 [ inl g ↦ ended a.v1.now _ so.n _ l1 so.rests.0 so.sizes.0 g.1.1.0 | inr g ↦ ended w.first.now _ so.n _ w.sized.0 so.rests.1 so.sizes.1 g.1.1.0 ]
      | inr h ↦ elim h.1 [ inl g ↦ ended a.v2.now _ so.n _ l2 so.rests.2 so.sizes.2 g.1.1.0 | inr g ↦ ended w.second.now _ so.n _ w.sized.1 so.rests.3 so.sizes.3 g.1.1.0 ]
    ] in
    let all : 128 * so.n ≡ 512 = omega (arith, so.upto, last) in
    let fits : SFits w32 c.total.result = search rules in
    to_z-of_z fits ∙ c.total.ensures ∙ so.gathered.is ∙ ap (front (pair a.v1.now a.v2.now) (pair w.first.now w.second.now)) all
    ∙ ap₂ ◌+ℤ◌ (ap₂ inner (whole a.v1.now l1) (whole w.first.now w.sized.0)) (ap₂ inner (whole a.v2.now l2) (whole w.second.now w.sized.1))
