mod Lent
use Rattle.std.proofs.Common.{◌≡◌, sym, ◌∙◌, List, Ok, Err}
use Rattle.answers.specs.Outcomes.{Outcome, filled}
use Rattle.answers.specs.declared.Refusal.TheVariants.{HeaderMalformed}
use Rattle.answers.proofs.Calls.{handed_on}
use Rattle.record_forms.specs.declared.Form.{Form}
use Rattle.record_forms.specs.declared.Malformed.{Malformed}
use Rattle.record_forms.specs.Headers.{Header, header_in}
use Rattle.record_forms.proofs.Ways.{calls}
use Rattle.records.specs.Conversion.{conversion_of}
use Rattle.records.proofs.Buffers.{stated_total}
use Rattle.records.proofs.convert.Goals as goal
use Prim.Native.Nat.{ℕ}

module _ (from to : Form) (rec out : List ℕ) (h : Header) (is : h ≡ header_in from rec) where
  malformed : (m : Malformed) (o : Outcome) → h ≡ Err m → o ≡ Err (HeaderMalformed m.place) → filled o out ≡ conversion_of from to rec out
  unfolding conversion_of
  malformed m o e f = rw (sym is ∙ e, f)

pub convert_for-requires : goal.convert_for-requires
convert_for-requires c = stated_total c.header_in.result c.args.from c.args.rec.now c.in_ok-s.s c.header_in.ensures c.in_ok-s.was

pub returns-in_err-s : goal.returns-in_err-s
returns-in_err-s c =
    let r = c.from_residual in
    malformed c.args.from c.args.to c.args.rec.now c.args.out.now c.header_in.result c.header_in.ensures _ r.result c.in_err-s.was (handed_on r.result _ r.ensures.1)

pub returns : goal.returns
unfolding conversion_of
returns c = rw (sym c.header_in.ensures ∙ c.in_ok-s.was) c.convert_for.ensures
