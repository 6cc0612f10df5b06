-- Byte strings that agree from one place up to another. Assumes nothing.
use Rattle.std.proofs.Common.{◌≡◌, refl, sym, ap, ap₂, ◌∙◌, Bool, true, false, not, ◌&&◌, List, [], ◌∷◌, ◌++◌, ℕ, ◌+◌, ◌-◌, ◌≤◌, take, arith}
use borrow.Author.Tests.{not-true, not-false}
use lib.Dec.{eqb}
use lib.Pointwise.{pointwise}
use lib.Seq.{take-add}
use Rattle.laws.specs.Lists.{same}
use Rattle.laws.proofs.Loops.{same_is}
use Rattle.record_forms.specs.Headers.{part, agree}

-- the bytes up to a place, and from there up to another
pub take_further : (from to : ℕ) (l : List ℕ) → from ≤ to → take to l ≡ take from l ++ part from to l
take_further from to l h = ap (λ (n : ℕ). take n l) (sum from to h) ∙ take-add from (to - from) l
  where
    sum : (m n : ℕ) → m ≤ n → n ≡ m + (n - m)
    sum m n h = omega arith

-- what agrees up to a place, and from there up to another, agrees up to that one
pub agree_further : (from to : ℕ) (a b : List ℕ) → from ≤ to → take from a ≡ take from b → agree from to a b ≡ true → take to a ≡ take to b
agree_further from to a b h front field = take_further from to a h ∙ ap₂ ◌++◌ front (same_is _ _ field) ∙ sym (take_further from to b h)

-- std's comparison of two byte strings
pointwise_same : (xs ys : List ℕ) → pointwise eqb xs ys ≡ same xs ys
unfolding same
pointwise_same [] [] = refl
pointwise_same [] (y ∷ ys) = refl
pointwise_same (x ∷ xs) [] = refl
pointwise_same (x ∷ xs) (y ∷ ys) = ap (λ (b : Bool). eqb x y && b) (pointwise_same xs ys)

module _ (from to : ℕ) (a b : List ℕ) (r : Bool) (is : r ≡ not (pointwise eqb (part from to a) (part from to b))) where
  pub fields_differ : r ≡ true → agree from to a b ≡ false
  fields_differ e = sym (pointwise_same (part from to a) (part from to b)) ∙ not-true _ (sym is ∙ e)

  pub fields_agree : r ≡ false → agree from to a b ≡ true
  fields_agree e = sym (pointwise_same (part from to a) (part from to b)) ∙ not-false _ (sym is ∙ e)
