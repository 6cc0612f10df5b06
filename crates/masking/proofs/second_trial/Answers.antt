use Rattle.std.proofs.Common.{◌≡◌, ℕ, ◌+◌, ◌*◌, ◌<◌, Bool, not, ℤ, pos, nat_abs, ◌+ℤ◌, w32, to_z, of_z, sym, ap, ap₂, ◌∙◌, arith}
use Rattle.std.proofs.lemmas.Grind.{common_steps}
use Rattle.laws.proofs.Bounds.{abs_add, abs_sub}
use Rattle.laws.proofs.Machine.{Reads, element, positive, add_ok, add_is, sub_ok, sub_is}
use Rattle.vectors.specs.Vectors.{inner}
use Rattle.vectors.specs.Pairs.{Pair, pair, squares_pair, inner_pair}
use Rattle.vectors.proofs.Sums.{inner_le_sizes}
use Rattle.choices.specs.Choices.{added_if}
use Rattle.masking.specs.Masking.{masked}
use Rattle.masking.proofs.Inner.{inner_masked}
use Rattle.masking.proofs.second_trial.Goals.{After-inner_product-2}
use Rattle.masking.proofs.second_trial.Goals as goal

module _ (c : After-inner_product-2) where
  abbrev y_pair : Pair
  y_pair = pair c.args.y1.now c.args.y2.now

  abbrev v_pair : Pair
  v_pair = pair c.args.v1.now c.args.v2.now

  abbrev x : ℤ
  x = c.inner_product.result

  abbrev y : ℤ
  y = c.inner_product-2.result

  abbrev n : ℕ
  n = c.args.squared

  x_is : Reads w32 (of_z w32 x) x
  x_is = element w32 x c.inner_product.type_inv

  y_is : Reads w32 (of_z w32 y) y
  y_is = element w32 y c.inner_product-2.type_inv

  -- the arrays are the slices
  first_is : x ≡ inner c.args.y1.now c.args.v1.now
  first_is = grind (arith, common_steps)

  second_is : y ≡ inner c.args.y2.now c.args.v2.now
  second_is = grind (arith, common_steps)

  room : nat_abs x + nat_abs y + n < 1073741824
  room =
      omega (arith, ap nat_abs first_is, ap nat_abs second_is, inner_le_sizes c.args.y1.now c.args.v1.now, inner_le_sizes c.args.y2.now c.args.v2.now, c.requires.squared_value.1)

  small : nat_abs (x +ℤ y) + n < 1073741824
  small = omega (arith, abs_add x y, room)

  -- <y, v>
  whole : Reads w32 (of_z w32 (to_z w32 (of_z w32 x) +ℤ to_z w32 (of_z w32 y))) (x +ℤ y)
  whole = add_is x_is y_is (omega (arith, room))

  is_inner : x +ℤ y ≡ inner_pair y_pair v_pair
  is_inner = ap₂ ◌+ℤ◌ first_is second_is

  -- |v|²
  n_is : Reads w32 n (pos n)
  n_is = positive w32 n (omega (arith, room))

  -- what the sign bit makes of both
  masked_is : (b : Bool) → c.args.sign ≡ b → added_if (not b) (x +ℤ y) (pos n) ≡ inner_pair (masked c.args.sign y_pair v_pair) v_pair
  masked_is b e =
      ap₂ (added_if (not b)) is_inner (ap pos c.requires.squared_value.0)
      ∙ ap (λ (bit : Bool). added_if (not bit) (inner_pair y_pair v_pair) (pos (squares_pair v_pair))) (sym e)
      ∙ sym (inner_masked c.args.sign y_pair v_pair (omega arith) (omega arith))

pub overflow_add-inner : goal.overflow_add-inner
overflow_add-inner c =
    let b = (goal.at.overflow_add-inner c).After-inner_product-2 in
    add_ok (x_is b) (y_is b) (omega (arith, room b))

pub overflow_sub-inner : goal.overflow_sub-inner
overflow_sub-inner c =
    let b = (goal.at.overflow_sub-inner c).After-inner_product-2 in
    sub_ok (whole b) (n_is b) (omega (arith, small b))

pub twice-requires : goal.twice-requires
twice-requires c =
    let b = (goal.at.twice-requires c).After-inner_product-2 in
    rw (sub_is (whole b) (n_is b) (omega (arith, small b))).back (omega (arith, abs_sub (x b +ℤ y b) (pos (n b)), small b))

pub overflow_add-inner-else-sign : goal.overflow_add-inner-else-sign
overflow_add-inner-else-sign c =
    let b = (goal.at.overflow_add-inner-else-sign c).After-inner_product-2 in
    add_ok (whole b) (n_is b) (omega (arith, small b))

pub twice-requires-else-sign : goal.twice-requires-else-sign
twice-requires-else-sign c =
    let b = (goal.at.twice-requires-else-sign c).After-inner_product-2 in
    rw (add_is (whole b) (n_is b) (omega (arith, small b))).back (omega (arith, abs_add (x b +ℤ y b) (pos (n b)), small b))

pub returns-then-sign : goal.returns-then-sign
returns-then-sign c =
    let b = (goal.at.returns-then-sign c).After-inner_product-2 in
    c.twice.ensures ∙ ap (λ (z : ℤ). 2 * nat_abs z) ((sub_is (whole b) (n_is b) (omega (arith, small b))).back ∙ masked_is b _ c.if-sign.true)

pub returns-else-sign : goal.returns-else-sign
returns-else-sign c =
    let b = (goal.at.returns-else-sign c).After-inner_product-2 in
    c.twice-else-sign.ensures ∙ ap (λ (z : ℤ). 2 * nat_abs z) ((add_is (whole b) (n_is b) (omega (arith, small b))).back ∙ masked_is b _ c.if-sign.false)
