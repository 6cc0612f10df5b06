mod Lent
use mathlib.Core.Path.{◌≡◌, refl, sym, ◌∙◌}
use mathlib.Core.List.{List}
use Prim.Native.Nat.{ℕ}
use lib.IntN.{ℤ}
use lib.ListN.{length}
use Rattle.sets.specs.declared.Set.{Set}
use Rattle.sets.specs.Numbers.{dimension}
use Rattle.answers.specs.Outcomes.{Outcome, filled}
use Rattle.std.specs.Prelude.{Some, Err}
use Rattle.sets.specs.Numbers.{asked_of}
use Rattle.answers.specs.declared.Refusal.TheVariants.{WrongLength}
use Rattle.record_forms.specs.declared.Form.{Form}
use Rattle.record_forms.proofs.Ways.{calls, right_length}
use Rattle.records.specs.Signatures.{signature}
use Rattle.records.specs.Writer.{recorded_to, writing_for, offered, writing_of}
use Rattle.records.proofs.Buffers.{refused_record, put_record, handed_on}
use Rattle.records.proofs.write.Goals as goal

module _ (form : Form) (s : Set) (key : ℕ) (z1 z2 : List ℤ) (list out : List ℕ) where
  z1_wrong : (length z1 ≡ dimension → ⊥) → filled (Err WrongLength) out ≡ writing_for form (signature s key z1 z2 list) out
  unfolding writing_for
  z1_wrong h = search calls depth 9

  module _ (e : length z1 ≡ dimension) where
    z2_wrong : (length z2 ≡ dimension → ⊥) → filled (Err WrongLength) out ≡ writing_for form (signature s key z1 z2 list) out
    unfolding writing_for
    z2_wrong h = search calls depth 9

    lengths_right : length z2 ≡ dimension → (o : Outcome) (now : List ℕ) → filled o now ≡ recorded_to form (signature s key z1 z2 list) out → filled o now ≡ writing_for form (signature s key z1 z2 list) out
    unfolding writing_for
    lengths_right f o now w = search right_length depth 9

  by_set : (set : ℕ) → asked_of set ≡ Some s → writing_of form (offered set key z1 z2 list) out ≡ writing_for form (signature s key z1 z2 list) out
  unfolding writing_of
  by_set set e = rw e refl

  -- what is lent by its type is what was offered
  offered_as : (set : ℕ) (x y : List ℤ) → asked_of set ≡ Some s → length z1 ≡ dimension → length z2 ≡ dimension → x ≡ z1 → y ≡ z2 → (o : Outcome) (now : List ℕ)
      → filled o now ≡ recorded_to form (signature s key x y list) out → filled o now ≡ writing_of form (offered set key z1 z2 list) out
  offered_as set x y a e f p q o now w = lengths_right e f o now (w ∙ rw (p, q) refl) ∙ sym (by_set set a)

pub returns-in_default-try_into : goal.returns-in_default-try_into
returns-in_default-try_into c =
    z1_wrong c.args.form c.in-Some.s c.args.key c.args.z1.now c.args.z2.now c.args.list.now c.args.out.now c.in_default-try_into.ensures.1
    ∙ sym (by_set c.args.form c.in-Some.s c.args.key c.args.z1.now c.args.z2.now c.args.list.now c.args.out.now c.args.set (sym c.asked.ensures ∙ c.in-Some.is))

pub returns-in_default-try_into-2 : goal.returns-in_default-try_into-2
returns-in_default-try_into-2 c =
    z2_wrong c.args.form c.in-Some.s c.args.key c.args.z1.now c.args.z2.now c.args.list.now c.args.out.now c.in-Ok.ensures.1.long c.in_default-try_into-2.ensures.1
    ∙ sym (by_set c.args.form c.in-Some.s c.args.key c.args.z1.now c.args.z2.now c.args.list.now c.args.out.now c.args.set (sym c.asked.ensures ∙ c.in-Some.is))

pub returns-in_err-refusal : goal.returns-in_err-refusal
returns-in_err-refusal c =
    let r = c.from_residual in
    offered_as c.args.form c.in-Some.s c.args.key c.args.z1.now c.args.z2.now c.args.list.now c.args.out.now c.args.set c.in-Ok.first.now c.in-Ok-try_into.second.now
    (sym c.asked.ensures ∙ c.in-Some.is) c.in-Ok.ensures.1.long c.in-Ok-try_into.ensures.1.long c.in-Ok.ensures.1.same c.in-Ok-try_into.ensures.1.same r.result _
    (refused_record c.args.form c.in-Some.s c.args.key _ _ _ c.args.out.now _ c.refusal.ensures _ r.result c.in_err-refusal.was (handed_on r.result _ r.ensures.1))

pub returns : goal.returns
returns c =
    offered_as c.args.form c.in-Some.s c.args.key c.args.z1.now c.args.z2.now c.args.list.now c.args.out.now c.args.set c.in-Ok.first.now c.in-Ok-try_into.second.now
    (sym c.asked.ensures ∙ c.in-Some.is) c.in-Ok.ensures.1.long c.in-Ok-try_into.ensures.1.long c.in-Ok.ensures.1.same c.in-Ok-try_into.ensures.1.same _ _
    (put_record c.args.form c.in-Some.s c.args.key _ _ _ c.args.out.now _ c.refusal.ensures c.in_ok-refusal.was _ _ c.put.ensures)
