use mathlib.Core.Path.{◌≡◌, sym, ◌∙◌}
use mathlib.Core.List.{map}
use Prim.Native.Nat.{◌^◌, ◌<◌}
use native.Mathlib.Omega.{arith}
use lib.IntN.{ℤ, pos, neg_ℤ, nat_abs, +ℤ_idl}
use lib.ListN.{length, get_or, length-map, get_or-map}
use mir.Syntax.{w16}
use mir.Val.{hbits, of_z}
use Rattle.laws.proofs.Loops.{more}
use Rattle.laws.proofs.Machine.{Reads, given, fits, held, sub_ok, sub_is}
use Rattle.vectors.proofs.Ranges.{within_at}
use Rattle.vectors.proofs.negate.Goals as goal

module _ (c : goal.After-entry-in-loop-i-1) where
  abbrev old : ℤ
  old = get_or c.args.x.now c.loop-i.i (pos 0)

  small : nat_abs old < 2 ^ hbits w16
  small = let l = c in omega (arith, within_at 32767 l.args.x.now l.requires.1 l.loop-i.i)

  reads : Reads w16 (of_z w16 old) old
  reads = given (fits small)

pub overflow_sub-entry : goal.overflow_sub-entry
overflow_sub-entry c = sub_ok (held w16 0) (reads c) (omega (arith, small c))

pub loop-i-preserved : goal.loop-i-preserved
loop-i-preserved c =
    let same : length (map neg_ℤ c.args.x.now) ≡ length c.args.out.now = omega (arith, length-map c.args.x.now neg_ℤ) in
    more _ _ same c.loop-i.invariant (pos 0) _ (omega arith)
    ((sub_is (held w16 0) (reads c) (omega (arith, small c))).back ∙ +ℤ_idl (neg_ℤ (old c)) ∙ sym (get_or-map neg_ℤ c.args.x.now c.loop-i.i (pos 0)))
