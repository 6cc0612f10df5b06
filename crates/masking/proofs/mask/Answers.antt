use Rattle.std.proofs.Common.{◌≡◌, not, length, get_or, pos, w16, sym, ap₂, ◌∙◌, arith, rules}
use mir.Val.{SFits}
use Rattle.laws.specs.Lists.{zip_with}
use Rattle.laws.proofs.Entries.{length-zip_with, get_or-zip_with}
use Rattle.laws.proofs.Loops.{next_is, more, finish}
use Rattle.laws.proofs.Machine.{given, element}
use Rattle.choices.specs.Choices.{added_if}
use Rattle.masking.proofs.mask.Goals as goal

pub masked-requires : goal.masked-requires
masked-requires c =
    let o = added_if (not c.args.sign) in
    let y = c.args.y.now in
    let v = c.args.v.now in
    let i = c.loop-i.i in
    let f : SFits w16 (get_or y i (pos 0)) = search rules in
    let g : SFits w16 (get_or c.loop-i.v i (pos 0)) = search rules in
    let long : length (zip_with o y v) ≡ length v = omega (arith, length-zip_with o y v (omega arith)) in
    rw ((given f).back, (given g).back ∙ next_is v (zip_with o y v) long c.loop-i.invariant (pos 0) (omega arith)) (c.requires.by_index i)

pub loop-i-preserved : goal.loop-i-preserved
loop-i-preserved c =
    let o = added_if (not c.args.sign) in
    let y = c.args.y.now in
    let v = c.args.v.now in
    let i = c.loop-i.i in
    let f : SFits w16 (get_or y i (pos 0)) = search rules in
    let g : SFits w16 (get_or c.loop-i.v i (pos 0)) = search rules in
    let long : length (zip_with o y v) ≡ length v = omega (arith, length-zip_with o y v (omega arith)) in
    more v (zip_with o y v) long c.loop-i.invariant (pos 0) _ (omega arith)
    ((element w16 c.masked.result c.masked.type_inv).back ∙ c.masked.ensures
    ∙ ap₂ o (given f).back ((given g).back ∙ next_is v (zip_with o y v) long c.loop-i.invariant (pos 0) (omega arith))
    ∙ sym (get_or-zip_with o y v i (pos 0) (pos 0) (pos 0) (omega arith) (omega arith)))

pub returns : goal.returns
returns c =
    let o = added_if (not c.args.sign) in
    let y = c.args.y.now in
    let v = c.args.v.now in
    finish v (zip_with o y v) (omega (arith, length-zip_with o y v (omega arith))) c.loop-i.invariant (omega arith)
