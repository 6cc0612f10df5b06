use mathlib.Core.Path.{◌≡◌, refl, ap, ◌∙◌}
use mathlib.Core.Bool.{Bool, cond}
use mathlib.Core.List.{List}
use Prim.Native.Nat.{ℕ, ◌+◌}
use native.Mathlib.Omega.{arith}
use borrow.Author.Tests.{eq-eqb, ne_eqb}
use lib.Dec.{eqb, lit≤}
use lib.IntN.{ℤ, pos, nat_abs}
use lib.ListN.{take, get_or}
use mir.Syntax.{w16}
use Rattle.laws.proofs.Machine.{element}
use Rattle.keys.specs.Key.{counted}
use Rattle.keys.proofs.Counts.{counted_more}
use Rattle.keys.proofs.count.Goals.{then-size, else-size}
use Rattle.keys.proofs.count.Goals as goal

pub loop-coefficient-init : goal.loop-coefficient-init
unfolding counted
loop-coefficient-init c = (lit≤ tt, refl, lit≤ tt)

module _ (c : goal.Joined-size) where
  abbrev here : goal.Joined-size
  here = c

  abbrev F : List ℤ
  F = here.args.f.now

  abbrev size : ℕ
  size = here.args.size

  abbrev entry : ℤ
  entry = get_or F here.loop-coefficient.coefficient-index (pos 0)

  is-size : c.size.result ≡ nat_abs entry
  is-size = c.size.ensures ∙ ap nat_abs (element w16 entry c.coefficient-1.given).back

  more : counted size (take (here.loop-coefficient.coefficient-index + 1) F) ≡ counted size (take here.loop-coefficient.coefficient-index F) + cond (eqb (nat_abs entry) size) 1 0
  more = counted_more size F here.loop-coefficient.coefficient-index (omega arith)

abbrev one-if : Bool → ℕ
one-if b = cond b 1 0

pub loop-coefficient-preserved : goal.loop-coefficient-preserved
loop-coefficient-preserved c = (
  omega arith,
  elim c.if-size.branch [
    | then-size w ↦ omega (arith, w.found-is, more c, ap one-if (eq-eqb (nat_abs (entry c)) (size c) (omega (arith, is-size c, w.if-size.true))))
    | else-size w ↦ omega (arith, w.found-is, more c, ap one-if (ne_eqb (nat_abs (entry c)) (size c) (λ e. w.if-size.false (is-size c ∙ e))))
  ],
  elim c.if-size.branch [ then-size w ↦ omega (arith, w.found-is) | else-size w ↦ omega (arith, w.found-is) ],
)
