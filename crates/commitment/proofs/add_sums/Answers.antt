use Rattle.std.proofs.Common.{get_or, pos, w16, ap, ◌∙◌, arith, rules}
use mir.Val.{SFits}
use Rattle.laws.proofs.Machine.{given}
use Rattle.rounding.specs.Rounding.{summed}
use Rattle.commitment.proofs.Sums.{joined_next, joined_all}
use Rattle.commitment.proofs.add_sums.Goals as goal

pub loop-i-preserved : goal.loop-i-preserved
loop-i-preserved c =
    let f : SFits w16 (get_or c.args.y.now c.loop-i.i (pos 0)) = search rules in
    joined_next summed c.args.t.now c.args.y.now (omega arith) c.loop-i.invariant 0 (pos 0) _ (omega arith) (c.sum.ensures ∙ ap (summed (get_or c.loop-i.t c.loop-i.i 0)) (given f).back)

pub returns : goal.returns
returns c = joined_all summed c.args.t.now c.args.y.now (omega arith) c.loop-i.invariant (omega arith)
