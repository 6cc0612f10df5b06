use mathlib.Core.Path.{◌≡◌, refl, sym, ap, ◌∙◌}
use mathlib.Core.List.{List}
use Prim.Native.Nat.{ℕ, ◌*◌, ◌<◌, ◌≤◌}
use native.Mathlib.Omega.{arith}
use borrow.Author.Tests.{leb-true}
use lib.IntN.{ℤ, pos, nat_abs, ◌+ℤ◌}
use lib.ListN.{get_or, set as update}
use mir.Syntax.{w16}
use mir.Val.{to_z, of_z}
use Rattle.laws.proofs.Bounds.{abs_mul}
use Rattle.laws.proofs.Entries.{every_anywhere}
use Rattle.laws.proofs.Loops.{next_is, more, finish}
use Rattle.laws.proofs.Machine.{Reads, element, held, mul_ok, mul_is, add_ok, add_is}
use mathlib.Core.Bool.{true}
use Rattle.laws.specs.Lists.{every}
use Rattle.vectors.specs.Vectors.{within}
use Rattle.keys.proofs.Second.{double, doubled, length_doubled, get_or_doubled, second_is}
use Rattle.keys.proofs.make_second.Goals as goal

small : (g : List ℤ) → every (within 2) g ≡ true → (k : ℕ) → nat_abs (get_or g k (pos 0)) ≤ 2
small g e k = leb-true _ _ (every_anywhere (within 2) g k (pos 0) e refl)

module _ (c : goal.After-coefficient-in-loop-coefficient-1) where
  abbrev x : ℤ
  x = get_or c.loop-coefficient.g c.loop-coefficient.coefficient-index (pos 0)

  old : x ≡ get_or c.args.g.now c.loop-coefficient.coefficient-index (pos 0)
  old = next_is c.args.g.now (doubled c.args.g.now) (length_doubled c.args.g.now) c.loop-coefficient.invariant.1 (pos 0) (omega arith)

  x-is : Reads w16 (of_z w16 x) x
  x-is = element w16 x c.coefficient-in-loop-coefficient-1.given

  room : nat_abs (pos 2) * nat_abs x < 32768
  room = omega (arith, ap nat_abs old, small c.args.g.now c.requires c.loop-coefficient.coefficient-index)

pub overflow_mul-coefficient : goal.overflow_mul-coefficient
overflow_mul-coefficient c = mul_ok (held w16 2) (x-is c) (room c)

pub loop-coefficient-preserved : goal.loop-coefficient-preserved
loop-coefficient-preserved c = (
  omega arith,
  more c.args.g.now (doubled c.args.g.now) (length_doubled c.args.g.now) c.loop-coefficient.invariant.1 (pos 0) _ (omega arith)
      ((mul_is (held w16 2) (x-is c) (room c)).back ∙ ap double (old c) ∙ sym (get_or_doubled c.args.g.now c.loop-coefficient.coefficient-index)),
)

module _ (c : goal.After-g-1) where
  done : c.loop-coefficient.g ≡ doubled c.args.g.now
  done =
      finish c.args.g.now (doubled c.args.g.now) (length_doubled c.args.g.now) c.loop-coefficient.invariant.1 (omega arith)

module _ (c : goal.After-g-1) where
  abbrev first : ℤ
  first = get_or c.loop-coefficient.g 0 (pos 0)

  first_is : Reads w16 (of_z w16 first) first
  first_is = element w16 first c.g-1.given

  first_small : nat_abs first ≤ 4
  first_small =
      omega (arith, ap (λ (r : List ℤ). nat_abs (get_or r 0 (pos 0))) (done c), ap nat_abs (get_or_doubled c.args.g.now 0), abs_mul (pos 2) (get_or c.args.g.now 0 (pos 0)), small c.args.g.now c.requires 0)

  sum : Reads w16 (of_z w16 (to_z w16 (of_z w16 first) +ℤ pos 1)) (first +ℤ pos 1)
  sum = add_is first_is (held w16 1) (omega (arith, first_small))

pub overflow_add-g : goal.overflow_add-g
overflow_add-g c = add_ok (first_is c) (held w16 1) (omega (arith, first_small c))

pub returns : goal.returns
returns c =
    ap (λ (z : ℤ). update c.loop-coefficient.g 0 z) (sum c).back
    ∙ ap (λ (r : List ℤ). update r 0 (get_or r 0 (pos 0) +ℤ pos 1)) (done c)
    ∙ second_is c.args.g.now (omega arith)
