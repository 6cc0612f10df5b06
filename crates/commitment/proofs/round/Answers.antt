use Rattle.std.proofs.Common.{◌≡◌, get_or, map, sym, ap, ◌∙◌, arith}
use lib.ListN.{length-map}
use Rattle.laws.proofs.Entries.{get_or-map}
use Rattle.laws.proofs.Loops.{next_is, more}
use Rattle.sets.proofs.Alike.{p_small}
use Rattle.rounding.specs.Rounding.{upper}
use Rattle.rounding.proofs.Laws.{upper_below}
use Rattle.rounding.proofs.Digits.{digits_are}
use Rattle.commitment.proofs.round.Goals.{After-round}
use Rattle.commitment.proofs.round.Goals as goal

digits : (c : After-round) → c.round.result.digits ≡ upper c.args.by.set (get_or c.loop-entry.u c.loop-entry.entry-index 0)
digits c = digits_are c.round.ensures ∙ ap (upper c.args.by.set) c.from.ensures

pub overflow_cast-entry : goal.overflow_cast-entry
overflow_cast-entry c =
    let s = c.args.by.set in
    omega (arith, digits (goal.at.overflow_cast-entry c).After-round, upper_below s (get_or c.loop-entry.u c.loop-entry.entry-index 0), p_small s)

pub loop-entry-preserved : goal.loop-entry-preserved
loop-entry-preserved c =
    let s = c.args.by.set in
    let u = c.args.u.now in
    let i = c.loop-entry.entry-index in
    let long = length-map u (upper s) in
    more u (map (upper s) u) long c.loop-entry.invariant 0 _ (omega arith)
    (digits (goal.at.loop-entry-preserved c).After-round ∙ ap (upper s) (next_is u (map (upper s) u) long c.loop-entry.invariant 0 (omega arith)) ∙ sym (get_or-map (upper s) u i 0 0 (omega arith)))
