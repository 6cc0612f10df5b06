use mathlib.Core.Path.{sym, ◌∙◌}
use Prim.Native.Nat.{◌+◌, ◌<◌}
use native.Mathlib.Omega.{arith}
use lib.Dec.{T, lit<}
use lib.IntN.{ℤ, pos, nat_abs, ◌+ℤ◌}
use lib.Signed.{non_neg, pos-nat_abs}
use mir.Syntax.{w16}
use mir.Val.{to_z, of_z}
use Rattle.laws.proofs.Congruence.{cong_eq, cong_sym, cong_trans, cong_multiple, residue_is}
use Rattle.laws.proofs.Linear.{above, under, size, size_le, sum, nonneg, lt_yes, lt_no}
use Rattle.laws.proofs.Machine.{Reads, given, held, add_is, lt_is, unsigned_is}
use Rattle.sets.specs.Numbers.{modulus}
use Rattle.keys.proofs.residue.Goals as goal

module _ (c : goal.Then-x-lt0) where
  abbrev x : ℤ
  x = c.args.x

  x-is : Reads w16 (of_z w16 x) x
  x-is = given c.ranges.x

  negative : above x + under (pos 0) < above (pos 0) + under x
  negative = lt_yes x (pos 0) (lt_is x-is (held w16 0) c.if-x-lt0.true)

  raised : Reads w16 (of_z w16 (to_z w16 (of_z w16 x) +ℤ pos modulus)) (x +ℤ pos modulus)
  raised = add_is x-is (held w16 modulus) (omega (arith, c.requires))

  above_zero : T (non_neg (x +ℤ pos modulus))
  above_zero = nonneg (x +ℤ pos modulus) (omega (arith, sum x (pos modulus), size x, c.requires))

  small : nat_abs (x +ℤ pos modulus) < modulus
  small = omega (arith, size_le (x +ℤ pos modulus) 12288 (omega (arith, sum x (pos modulus), negative)) (omega (arith, sum x (pos modulus), size x, c.requires)))

pub returns-then-x-lt0 : goal.returns-then-x-lt0
returns-then-x-lt0 c =
    unsigned_is (raised c)
    ∙ sym (residue_is (lit< tt)
    (cong_trans (cong_sym (cong_multiple (x c) (pos 1))) (cong_eq (sym (pos-nat_abs (x c +ℤ pos modulus) (above_zero c)))))
    (small c))

pub returns-else-x-lt0 : goal.returns-else-x-lt0
returns-else-x-lt0 c =
    let x = c.args.x in
    let p = given c.ranges.x in
    let t : T (non_neg x) = nonneg x (omega (arith, lt_no x (pos 0) (lt_is p (held w16 0) c.if-x-lt0.false))) in
    unsigned_is p ∙ sym (residue_is (lit< tt) (cong_eq (sym (pos-nat_abs x t))) c.requires)
