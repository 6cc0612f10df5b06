use Rattle.std.proofs.Common.{◌≡◌, sym, ap, ◌∙◌, List, ◌++◌, ℕ, take, drop, length, Result, Ok, Err}
use lib.IntN.{ℤ}
use Rattle.sets.specs.declared.Set.{Set}
use Rattle.sets.specs.Numbers.{kappa_of}
use Rattle.answers.specs.declared.Refusal.{Refusal}
use Rattle.answers.specs.Outcomes.{Outcome, Done}
use Rattle.answers.proofs.Calls.{refusal_is}
use Rattle.record_forms.specs.declared.Form.{Form}
use Rattle.records.specs.declared.Reading.{Reading}
use Rattle.records.specs.Signatures.{Signature, signature, signature_in, refusal_of}
use Rattle.records.specs.Reader.{buffers, reading_for}
use Rattle.records.proofs.Buffers.{front_long, lent_is, told, told_refusal, handed_on}
use Rattle.records.proofs.read_for.Goals as goal

-- what is lent is the record's signature, and is refused for o
module _ (form : Form) (s : Set) (rec : List ℕ) (z1 z2 : List ℤ) (list : List ℕ) (g : Signature) (is : g ≡ signature_in form s rec) (o : Outcome) (e : o ≡ refusal_of g) where
  tells : o ≡ refusal_of (signature_in form s rec)
  tells = e ∙ ap refusal_of is

  refused : (refusal : Refusal) (r : Result Reading Refusal) → o ≡ Err refusal → r ≡ Err refusal → told r (buffers z1 z2 list) ≡ reading_for form s rec (buffers z1 z2 list)
  unfolding reading_for
  refused refusal r t h = rw (← tells, t, refusal_is refusal) (told_refusal r refusal (buffers z1 z2 list) h)

  done : (kappa : ℕ) (x y : List ℤ) (l : List ℕ) → o ≡ Done → kappa ≡ kappa_of s → x ≡ g.z1 → y ≡ g.z2 → l ≡ g.list
      → told (Ok (record { set = s; key = g.key })) (buffers x y (l ++ drop kappa list)) ≡ reading_for form s rec (buffers z1 z2 list)
  unfolding reading_for
  done kappa x y l t k p q m =
      rw (← tells, t)
      (rw (k, p ∙ ap (λ (g : Signature). g.z1) is, q ∙ ap (λ (g : Signature). g.z2) is, m ∙ ap (λ (g : Signature). g.list) is, ap (λ (g : Signature). g.key) is))

pub copy_from_slice-requires-3 : goal.copy_from_slice-requires-3
copy_from_slice-requires-3 c =
    let e = c.signature-signature.ensures in
    sym (front_long c.args.list.now _ c.args.s c.kappa-kappa.ensures c.requires.3) ∙ c.kappa-kappa.ensures ∙ sym e.5 ∙ ap length e.4
    ∙ ap (λ (n : ℕ). length (take n c.unpack.new.held.list)) (sym c.kappa-kappa.ensures)

pub returns-in_err-refusal : goal.returns-in_err-refusal
returns-in_err-refusal c =
    let r = c.from_residual in
    let p = c.signature-signature.result in
    refused c.args.form c.args.s c.args.rec.now c.args.z1.now c.args.z2.now c.args.list.now (signature p.set p.key p.z1.now p.z2.now p.list.now)
    (lent_is c.args.form c.args.s _ _ _ c.args.rec.now _ _ _ _ _ _ _ c.signature-signature.ensures c.key_in.ensures c.unpack.ensures)
    _ c.refusal.ensures _ r.result c.in_err-refusal.was (handed_on r.result _ r.ensures.1)

pub returns : goal.returns
returns c =
    let p = c.signature-signature.result in
    done c.args.form c.args.s c.args.rec.now c.args.z1.now c.args.z2.now c.args.list.now (signature p.set p.key p.z1.now p.z2.now p.list.now)
    (lent_is c.args.form c.args.s _ _ _ c.args.rec.now _ _ _ _ _ _ _ c.signature-signature.ensures c.key_in.ensures c.unpack.ensures)
    _ c.refusal.ensures _ _ _ _ c.in_ok-refusal.was c.kappa-kappa.ensures
    (c.copy_from_slice.ensures.after ∙ sym c.signature-signature.ensures.2) (c.copy_from_slice-2.ensures.after ∙ sym c.signature-signature.ensures.3)
    (c.copy_from_slice-3.ensures.after ∙ ap (λ (n : ℕ). take n c.unpack.new.held.list) c.kappa-kappa.ensures ∙ sym c.signature-signature.ensures.4)
