use Rattle.std.proofs.Common.{ap, ◌∙◌}
use Rattle.records.specs.Signatures.{Signature}
use Rattle.records.specs.Writer.{recorded_to}
use Rattle.records.proofs.Buffers.{lent_is, refused_record, put_record, handed_on}
use Rattle.records.proofs.convert_sections.Goals as goal

pub returns-in_err-refusal : goal.returns-in_err-refusal
returns-in_err-refusal g c =
    let r = c.from_residual in
    let p = c.signature-signature.result in
    refused_record c.args.to p.set p.key p.z1.now p.z2.now p.list.now c.args.out.now _ c.refusal.ensures _ r.result c.in_err-refusal.was (handed_on r.result _ r.ensures.1)
    ∙ ap (λ (g : Signature). recorded_to c.args.to g c.args.out.now)
    (lent_is g.F.Sections.form c.args.s _ _ _ c.args.rec.now _ _ _ _ _ _ _ c.signature-signature.ensures c.key_in.ensures c.unpack.ensures)

pub returns : goal.returns
returns g c =
    let p = c.signature-signature.result in
    put_record c.args.to p.set p.key p.z1.now p.z2.now p.list.now c.args.out.now _ c.refusal.ensures c.in_ok-refusal.was _ _ c.put.ensures
    ∙ ap (λ (g : Signature). recorded_to c.args.to g c.args.out.now)
    (lent_is g.F.Sections.form c.args.s _ _ _ c.args.rec.now _ _ _ _ _ _ _ c.signature-signature.ensures c.key_in.ensures c.unpack.ensures)
