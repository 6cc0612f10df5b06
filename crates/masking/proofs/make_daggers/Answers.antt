use Rattle.std.proofs.Common.{get_or, pos, w8, w16, sym, ap₂, ◌∙◌, arith, rules}
use mir.Val.{SFits}
use Rattle.laws.specs.Lists.{zip_with}
use Rattle.laws.proofs.Entries.{length-zip_with, get_or-zip_with}
use Rattle.laws.proofs.Loops.{more, finish}
use Rattle.laws.proofs.Machine.{given, element}
use Rattle.rounding.specs.Rounding.{dagger}
use Rattle.masking.specs.Masking.{daggers}
use Rattle.masking.proofs.make_daggers.Goals as goal

pub loop-i-preserved : goal.loop-i-preserved
loop-i-preserved c =
    let s = c.args.s in
    let u = c.args.u.now in
    let z = c.args.z.now in
    let o = c.args.out.now in
    let i = c.loop-i.i in
    let f : SFits w16 (get_or z i (pos 0)) = search rules in
    more o (zip_with (dagger s) u z) (omega (arith, length-zip_with (dagger s) u z (omega arith))) c.loop-i.invariant (pos 0) _ (omega arith)
    ((element w8 c.dagger.result c.dagger.type_inv).back ∙ rw c.of-by.ensures at c.dagger.ensures
    ∙ ap₂ (dagger s) c.from.ensures (given f).back
    ∙ sym (get_or-zip_with (dagger s) u z i 0 (pos 0) (pos 0) (omega arith) (omega arith)))

pub returns : goal.returns
unfolding daggers
returns c =
    let s = c.args.s in
    let u = c.args.u.now in
    let z = c.args.z.now in
    let o = c.args.out.now in
    finish o (zip_with (dagger s) u z) (omega (arith, length-zip_with (dagger s) u z (omega arith))) c.loop-i.invariant (omega arith)
