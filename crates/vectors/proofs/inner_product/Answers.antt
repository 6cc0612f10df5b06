use mathlib.Core.Path.{◌≡◌, sym, ◌∙◌, ap}
use Prim.Native.Nat.{◌+◌, ◌*◌, ◌≤◌}
use native.Mathlib.Omega.{arith}
use lib.IntN.{ℤ, pos, nat_abs, ◌+ℤ◌, ◌*ℤ◌, +ℤ_assoc, +ℤ_idl, +ℤ_idr}
use mathlib.Core.Logic.{inl, inr}
use mir.Syntax.{w32}
use mir.Val.{SFits, to_z, of_z}
use Rattle.std.proofs.lemmas.Grind.{common_steps}
use Rattle.std.specs.Iterator.Adapters.{zip_first, zip_second}
use Rattle.std.specs.Slice.Iter.{iter_rest}
use Rattle.laws.proofs.Bounds.{abs_add, abs_mul}
use Rattle.laws.proofs.Machine.{Reads, element, held, fits, operation_ok, operation_is}
use Rattle.vectors.specs.Vectors.{inner}
use Rattle.vectors.proofs.Sums.{inner_next, sizes_next, inner_none}
use Rattle.vectors.proofs.inner_product.Goals as goal

pub loop-x-init : goal.loop-x-init
loop-x-init c =
    let first : iter_rest (zip_first c.into_iter-x-iterator.result) ≡ c.args.a.now = grind (arith, common_steps) in
    let second : iter_rest (zip_second c.into_iter-x-iterator.result) ≡ c.args.b.now = grind (arith, common_steps) in
    rw (first, second) (+ℤ_idl _, omega arith)

module _ (c : goal.After-product-sum) where
  abbrev x : ℤ
  x = c.in-Some.field-0-0.now

  abbrev y : ℤ
  y = c.in-Some.field-0-1.now

  abbrev sum : ℤ
  sum = to_z w32 c.loop-x.sum-bits

  part : Reads w32 (of_z w32 c.product-sum.result) (x *ℤ y)
  part = record { back = grind (arith, element) }

  size : nat_abs (sum +ℤ x *ℤ y) ≤ nat_abs sum + nat_abs x * nat_abs y
  size = omega (arith, abs_add sum (x *ℤ y), abs_mul x y)

  small : SFits w32 (sum +ℤ x *ℤ y)
  small = fits (omega (arith, size, sizes_next c.in-Some.ensures.steps.0 c.in-Some.ensures.steps.1))

pub overflow_add-sum : goal.overflow_add-sum
overflow_add-sum c = operation_ok (held w32 c.loop-x.sum-bits) (part c) ◌+ℤ◌ (small c)

pub loop-x-preserved : goal.loop-x-preserved
loop-x-preserved c =
    let steps = c.in-Some.ensures.steps in
    let more : to_z w32 (of_z w32 (to_z w32 c.loop-x.sum-bits +ℤ to_z w32 (of_z w32 c.product-sum.result))) ≡ sum c +ℤ x c *ℤ y c =
    (operation_is (held w32 c.loop-x.sum-bits) (part c) ◌+ℤ◌ (small c)).back in
    rw more (
      +ℤ_assoc (sum c) (x c *ℤ y c) _ ∙ ap (λ (z : ℤ). sum c +ℤ z) (sym (inner_next steps.0 steps.1)) ∙ c.loop-x.invariant.0,
      omega (arith, size c, sizes_next steps.0 steps.1),
    )

pub returns : goal.returns
returns c =
    let none : inner (iter_rest (zip_first c.loop-x.x-iterator)) (iter_rest (zip_second c.loop-x.x-iterator)) ≡ pos 0 =
    elim c.in-None.ensures.steps [ inl h ↦ inner_none _ _ (inl h.1.0) | inr h ↦ inner_none _ _ (inr h.1.0) ] in
    sym (+ℤ_idr _) ∙ ap (λ (z : ℤ). to_z w32 c.loop-x.sum-bits +ℤ z) (sym none) ∙ c.loop-x.invariant.0
