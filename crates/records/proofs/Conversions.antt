-- 02, C-11, "Demand 2's round trip then covers both forms and the conversions": a conversion is the reader of the form that it comes from and then the writer of
-- the form that it goes to, and either conversion after the other gives back the same bytes. For any two forms. Assumes nothing.
use mathlib.Core.Path.{◌≡◌, refl, sym, ap, ◌∙◌}
use mathlib.Core.Bool.{Bool, true, false}
use mathlib.Core.List.{List, ◌++◌}
use Prim.Native.Nat.{ℕ, ◌^◌, ◌<◌, ◌≤◌}
use native.Mathlib.Omega.{arith}
use borrow.Author.Tests.{eq-eqb, ltb-true}
use lib.ListN.{length, take, drop}
use Rattle.laws.specs.Lists.{every}
use Rattle.laws.specs.Refusals.{must}
use Rattle.laws.proofs.Entries.{every_anywhere}
use Rattle.sets.specs.declared.Set.{Set}
use Rattle.sets.specs.Numbers.{dimension, list_limit, kappa_of, set_number_of}
use Rattle.answers.specs.Outcomes.{Outcome, Done, number_of, is_done, Filled, filled}
use Rattle.std.specs.Prelude.{Ok, Err}
use Rattle.answers.specs.declared.Refusal.TheVariants.{HeaderMalformed}
use Rattle.answers.proofs.Calls.{zero_is}
use Rattle.byte_codes.specs.Bytes.{is_byte}
use Rattle.record_forms.specs.declared.Form.{Form}
use Rattle.record_forms.specs.Forms.{total_of}
use Rattle.record_forms.specs.Headers.{Header, key_in, header_in, opened}
use Rattle.record_forms.proofs.Stated.{stated, states_back}
use Rattle.record_forms.proofs.KeyNumbers.{stated_key}
use Rattle.records.specs.Signatures.{Signature, record_of, signature_in, refusal_of}
use Rattle.records.specs.Writer.{recorded_to, offered, writing_of}
use Rattle.records.specs.Reader.{Buffers, found, keeping, reading_for, reading_of}
use Rattle.records.specs.Conversion.{conversion_of}
use Rattle.records.proofs.Forms.{Sized}
use Rattle.records.proofs.Back.{record_stated, signature_back}
use Rattle.records.proofs.RoundTrip.{Recorded, recorded, recorded_back, front_back, found_well, found_named, offered_again, read_sized, record_is}

-- ---- what the reader refuses, and what it reads
module _ (from to : Form) (rec out : List ℕ) (b : Buffers) (o : Outcome) (set key : ℕ) (x : Buffers) (reads : reading_of from rec b ≡ found o set key x) where
  -- "a conversion gives 13, 5, 10, 11": what the reader refuses, its buffers at their lengths, the conversion refuses with the same number and place
  module _ (l1 : length b.z1 ≡ dimension) (l2 : length b.z2 ≡ dimension) (l3 : length b.list ≡ list_limit) (refused : number_of o ≡ 0 → ⊥) where
    by_refusal : (d : Bool) (p : Outcome) (n k : ℕ) (y : Buffers) (next : Filled) → must d (keeping b p) (found Done n k y) ≡ found o set key x
        → must d (filled p out) next ≡ filled o out
    by_refusal false p n k y next e = let same : p ≡ o = cc in ap (λ (p : Outcome). filled p out) same
    by_refusal true p n k y next e = let same : Done ≡ o = cc in absurd (refused (ap number_of (sym same)))

    by_header : (h : Header) → opened h (λ place. keeping b (Err (HeaderMalformed place))) (λ s. reading_for from s rec b) ≡ found o set key x
        → opened h (λ place. filled (Err (HeaderMalformed place)) out) (λ s. recorded_to to (signature_in from s rec) out) ≡ filled o out
    unfolding reading_for recorded_to
    by_header (Err malformed) e = let same : Err (HeaderMalformed malformed.place) ≡ o = cc in ap (λ (p : Outcome). filled p out) same
    by_header (Ok s) e = by_refusal (is_done (refusal_of (signature_in from s rec))) (refusal_of (signature_in from s rec)) _ _ _ _ e

    pub conversion_refuses : conversion_of from to rec out ≡ filled o out
    unfolding conversion_of reading_of
    conversion_refuses = by_header (header_in from rec) (sym (rw (eq-eqb _ _ l1, eq-eqb _ _ l2, eq-eqb _ _ l3)) ∙ reads)

  -- "then 14": what the reader reads the conversion leaves to the writer of the other form, which is offered just that, whatever the output is
  pub conversion_writes : number_of o ≡ 0 → (s : Set) × (set ≡ set_number_of s) × (conversion_of from to rec out ≡ writing_of to (offered set key x.z1 x.z2 (take (kappa_of s) x.list)) out)
  unfolding conversion_of
  conversion_writes zero =
      let r = found_well from rec b set key x (reads ∙ ap (λ (p : Outcome). found p set key x) (zero_is o zero)) in
      (r.s, found_named from to rec b set key x r, rw r.header (sym (offered_again from to rec b set key x r out)))

-- "packing gives the bytes that the packed writer makes of the same signature, unpacking those of the plain writer": of the record of a signature a conversion
-- leaves behind what the writer of the other form leaves of that signature, whatever the output is
module _ (from to : Form) (g : Signature) (so : Sized g) (kept : is_done (refusal_of g) ≡ true) (small : g.key < 2 ^ 32) where
  pub converts : (out : List ℕ) → conversion_of from to (record_of from g) out ≡ recorded_to to g out
  unfolding conversion_of
  converts out = rw (states_back (record_stated from g so kept)) (ap (λ (h : Signature). recorded_to to h out) (signature_back from g so kept small))

-- ---- there and back

-- what a conversion passed that is done
pub record Converted (from to : Form) (rec out out' : List ℕ) : Type 0 where
  pub s : Set
  pub header : header_in from rec ≡ Ok s
  pub recorded : Recorded to (signature_in from s rec) out out'

pub converted : (from to : Form) (rec out out' : List ℕ) → conversion_of from to rec out ≡ filled Done out' → Converted from to rec out out'
unfolding conversion_of
converted from to rec out out' e = by_header (header_in from rec) refl e
  where
    by_header : (h : Header) → header_in from rec ≡ h → opened h (λ place. filled (Err (HeaderMalformed place)) out) (λ s. recorded_to to (signature_in from s rec) out) ≡ filled Done out'
        → Converted from to rec out out'
    by_header (Err malformed) h e = let same : Err (HeaderMalformed malformed.place) ≡ Done = cc in absurd (differs same)
      where
        differs : Err (HeaderMalformed malformed.place) ≡ Done → ⊥
        differs k = let z : ◌≡◌ {A = ℕ} 13 0 = ap number_of k in omega arith
    by_header (Ok s) h e = record { s = s; header = h; recorded = recorded to (signature_in from s rec) out out' e }

-- What a conversion made is a record of the other form, the first bytes of its output, and the conversion back makes the record again that it came from, byte
-- for byte, at the front of any output that is long enough.
pub record ConvertsBack (from to : Form) (rec out' : List ℕ) : Type 0 where
  pub s : Set
  pub total : length rec ≡ total_of from s
  pub converts : (again : List ℕ) → length rec ≤ length again
      → (o : Outcome) × (number_of o ≡ 0) × (conversion_of to from (take (total_of to s) out') again ≡ filled o (rec ++ drop (length rec) again))

pub converted_back : (from to : Form) (rec : List ℕ) → every is_byte rec ≡ true → (out : List ℕ) (o : Outcome) (out' : List ℕ) → number_of o ≡ 0
    → conversion_of from to rec out ≡ filled o out' → ConvertsBack from to rec out'
converted_back from to rec bytes out o out' zero e =
    let c = converted from to rec out out' (e ∙ ap (λ (p : Outcome). filled p out') (zero_is o zero)) in
    let s = c.s in
    let g = signature_in from s rec in
    let so = read_sized from s rec in
    let kept = c.recorded.kept in
    let stated = stated from rec c.header in
    let total : length rec ≡ total_of from s = stated.total in
    let small : key_in rec < 2 ^ 32 = stated_key stated (λ k. ltb-true _ _ (every_anywhere is_byte rec k 0 bytes refl)) in
    let front : take (total_of to s) out' ≡ record_of to g = front_back to g so kept out out' c.recorded.is in
    record {
      s = s;
      total = total;
      converts = λ again room. (
        Done,
        refl,
        rw (front, total)
            (converts to from g so kept small again
            ∙ recorded_back from g again kept (rw (← total) room)
            ∙ ap (λ (l : List ℕ). filled Done (l ++ drop (total_of from s) again)) (record_is from s rec c.header bytes)),
      );
    }
