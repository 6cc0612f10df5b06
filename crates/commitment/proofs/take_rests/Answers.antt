use Rattle.std.proofs.Common.{get_or, map, ℤ, pos, w16, to_z, of_z, sym, ap, ◌∙◌, arith}
use lib.ListN.{length-map}
use Rattle.laws.proofs.Entries.{get_or-map}
use Rattle.laws.proofs.Loops.{more}
use Rattle.laws.proofs.Machine.{given, fits}
use Rattle.rounding.specs.Rounding.{rest}
use Rattle.rounding.proofs.Digits.{rest_is, rest_small}
use Rattle.commitment.proofs.take_rests.Goals as goal

pub loop-i-preserved : goal.loop-i-preserved
loop-i-preserved c =
    let s = c.args.by.set in
    let u = c.args.u.now in
    let r = c.args.rests.now in
    let i = c.loop-i.i in
    more r (map (rest s) u) (omega (arith, length-map u (rest s))) c.loop-i.invariant (pos 0) _ (omega arith)
    (ap (λ (z : ℤ). to_z w16 (of_z w16 z)) (rest_is c.round.ensures ∙ ap (rest s) c.from.ensures)
    ∙ (given {w = w16} (fits (omega (arith, rest_small s (get_or u i 0))))).back
    ∙ sym (get_or-map (rest s) u i 0 (pos 0) (omega arith)))
