mod Lent
use Rattle.std.proofs.Common.{◌≡◌, sym, ◌∙◌, List, ℕ, length, Result, Ok, Err}
use borrow.Author.Tests.{eq-eqb}
use lib.IntN.{ℤ}
use Rattle.sets.specs.declared.Set.{Set}
use Rattle.sets.specs.Numbers.{dimension, list_limit}
use Rattle.answers.specs.declared.Refusal.{Refusal}
use Rattle.answers.specs.declared.Refusal.TheVariants.{WrongLength, HeaderMalformed}
use Rattle.record_forms.specs.declared.Form.{Form}
use Rattle.record_forms.specs.declared.Malformed.{Malformed}
use Rattle.record_forms.specs.Headers.{Header, header_in}
use Rattle.record_forms.proofs.Ways.{calls}
use Rattle.records.specs.declared.Reading.{Reading}
use Rattle.records.specs.Reader.{Found, found, keeping, buffers, reading_for, reading_of}
use Rattle.records.proofs.Buffers.{told, told_refusal, handed_on, stated_total}
use Rattle.records.proofs.read.Goals as goal

-- the ways through a call, each by the tests on it
module _ (form : Form) (rec : List ℕ) (z1 z2 : List ℤ) (list : List ℕ) where
  z1_wrong : (length z1 ≡ dimension → ⊥) → keeping (buffers z1 z2 list) (Err WrongLength) ≡ reading_of form rec (buffers z1 z2 list)
  unfolding reading_of
  z1_wrong h = search calls depth 9

  z2_wrong : length z1 ≡ dimension → (length z2 ≡ dimension → ⊥) → keeping (buffers z1 z2 list) (Err WrongLength) ≡ reading_of form rec (buffers z1 z2 list)
  unfolding reading_of
  z2_wrong e h = search calls depth 9

  list_wrong : length z1 ≡ dimension → length z2 ≡ dimension → (length list ≡ list_limit → ⊥) → keeping (buffers z1 z2 list) (Err WrongLength) ≡ reading_of form rec (buffers z1 z2 list)
  unfolding reading_of
  list_wrong e f h = search calls depth 9

  module _ (e : length z1 ≡ dimension) (f : length z2 ≡ dimension) (g : length list ≡ list_limit) (h : Header) (is : h ≡ header_in form rec) where
    header_malformed : (m : Malformed) (r : Result Reading Refusal) → h ≡ Err m → r ≡ Err (HeaderMalformed m.place) → told r (buffers z1 z2 list) ≡ reading_of form rec (buffers z1 z2 list)
    unfolding reading_of
    header_malformed m r k w =
        rw (eq-eqb (length z1) dimension e, eq-eqb (length z2) dimension f, eq-eqb (length list) list_limit g, sym is ∙ k) (told_refusal r _ (buffers z1 z2 list) w)

    header_states : (s : Set) (x : Found) → h ≡ Ok s → x ≡ reading_for form s rec (buffers z1 z2 list) → x ≡ reading_of form rec (buffers z1 z2 list)
    unfolding reading_of
    header_states s x k w = rw (eq-eqb (length z1) dimension e, eq-eqb (length z2) dimension f, eq-eqb (length list) list_limit g, sym is ∙ k) w

pub returns-then-z1-ne-DIMENSION : goal.returns-then-z1-ne-DIMENSION
returns-then-z1-ne-DIMENSION c = search z1_wrong

pub returns-then-z2-ne-DIMENSION : goal.returns-then-z2-ne-DIMENSION
returns-then-z2-ne-DIMENSION c = search z2_wrong

pub returns-then-list-ne-LIST_LIMIT : goal.returns-then-list-ne-LIST_LIMIT
returns-then-list-ne-LIST_LIMIT c = search list_wrong

pub read_for-requires : goal.read_for-requires
read_for-requires c = (stated_total c.header_in.result c.args.form c.args.rec.now c.in_ok-s.s c.header_in.ensures c.in_ok-s.was, search, search, search)

pub returns-in_err-s : goal.returns-in_err-s
returns-in_err-s c =
    let r = c.from_residual in
    header_malformed c.args.form c.args.rec.now c.args.z1.now c.args.z2.now c.args.list.now c.if-z1-ne-DIMENSION.false c.if-z2-ne-DIMENSION.false c.if-list-ne-LIST_LIMIT.false
    c.header_in.result c.header_in.ensures _ r.result c.in_err-s.was (handed_on r.result _ r.ensures.1)

pub returns : goal.returns
returns c =
    header_states c.args.form c.args.rec.now c.args.z1.now c.args.z2.now c.args.list.now c.if-z1-ne-DIMENSION.false c.if-z2-ne-DIMENSION.false c.if-list-ne-LIST_LIMIT.false
    c.header_in.result c.header_in.ensures c.in_ok-s.s _ c.in_ok-s.was c.read_for.ensures
