use Rattle.std.proofs.Common.{◌≡◌, get_or, pos, w8, to_z, of_z, ap₂, ◌∙◌, arith, rules}
use mir.Val.{SFits}
use Rattle.laws.proofs.Entries.{length-zip_with}
use Rattle.laws.proofs.Loops.{next_is}
use Rattle.laws.proofs.Machine.{given}
use Rattle.rounding.specs.Rounding.{restored}
use Rattle.commitment.proofs.Sums.{joined_next, joined_all}
use Rattle.checking.proofs.restore_all.Goals.{After-from}
use Rattle.checking.proofs.restore_all.Goals as goal

dagger : (c : After-from) → to_z w8 (of_z w8 (get_or c.args.z2.now c.loop-i.i (pos 0))) ≡ get_or c.args.z2.now c.loop-i.i (pos 0)
dagger c = (given (let f : SFits w8 (get_or c.args.z2.now c.loop-i.i (pos 0)) = search rules in f)).back

pub restored-requires : goal.restored-requires
restored-requires c =
    let at = (goal.at.restored-requires c).After-from in
    let long = length-zip_with (restored c.args.by.set) c.args.w.now c.args.z2.now (omega arith) in
    let sum = c.from.ensures ∙ next_is _ _ long c.loop-i.invariant 0 (omega arith) in
    (rw sum (c.requires.is_reduced.0 c.loop-i.i), rw (dagger at) (c.requires.is_reduced.1 c.loop-i.i))

pub loop-i-preserved : goal.loop-i-preserved
loop-i-preserved c =
    let at = (goal.at.loop-i-preserved c).After-from in
    joined_next (restored c.args.by.set) c.args.w.now c.args.z2.now (omega arith) c.loop-i.invariant 0 (pos 0) _ (omega arith)
    (c.restored.ensures ∙ ap₂ (restored c.args.by.set) c.from.ensures (dagger at))

pub returns : goal.returns
returns c = joined_all (restored c.args.by.set) c.args.w.now c.args.z2.now (omega arith) c.loop-i.invariant (omega arith)
