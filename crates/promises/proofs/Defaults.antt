-- 02, C-17: 0 stands for set 4 on every call, and two calls keep the old default. Assumes nothing.
use mathlib.Core.Path.{◌≡◌, refl, sym, ap, ◌∙◌}
use mathlib.Core.Bool.{true, false}
use mathlib.Core.List.{List, ◌++◌}
use Prim.Native.Nat.{ℕ}
use native.Mathlib.Omega.{arith}
use borrow.Author.Tests.{ne_eqb}
use lib.ListN.{length, drop, get_or}
use lib.IntN.{ℤ}
use Rattle.laws.specs.Lists.{every}
use Rattle.sets.specs.declared.Set.{Set}
use Rattle.sets.specs.declared.Set.TheVariants.{I, IV}
use Rattle.std.specs.Prelude.{Some, Err}
use Rattle.sets.specs.Numbers.{dimension, kappa_of, asked_of}
use Rattle.sets.proofs.Alike.{asked_back, asked_zero, default_zero, default_other}
use Rattle.answers.specs.Outcomes.{Outcome, Done, filled}
use Rattle.answers.specs.declared.Refusal.TheVariants.{ImproperList}
use Rattle.answers.proofs.Calls.{zero_is}
use Rattle.vectors.specs.Places.{proper_list}
use Rattle.vectors.proofs.Rising.{proper_count}
use Rattle.keys.specs.Key.{is_residue, key_test}
use Rattle.keys.proofs.Ranges.{a_residues}
use Rattle.commitment.specs.Commitment.{commitment, commitment_with_rests}
use Rattle.signing.specs.Response.{responded, responding, response}
use Rattle.signing.proofs.Numbered.{key_done, unnumbered_of}
use Rattle.checking.specs.Checking.{claim, rebuild, comparison}
use Rattle.byte_codes.specs.Bytes.{bytes_of}
use Rattle.record_forms.specs.declared.Form.{Form}
use Rattle.record_forms.specs.declared.Form.TheVariants.{Plain, Packed}
use Rattle.record_forms.specs.Forms.{total_of}
use Rattle.record_forms.specs.Headers.{fields_of, header_of}
use Rattle.records.specs.Signatures.{signature, record_of}
use Rattle.records.specs.Writer.{offered, writing_of}
use Rattle.records.proofs.RoundTrip.{written_reads}
use Rattle.promises.specs.Defaults.{SameCalls, ZeroIsFour, DefaultOne, DefaultOnBothSides, SheetOfOne}
use Rattle.promises.proofs.Signatures.{given_out}
use Rattle.promises.proofs.Agreement.{z_first, daggers_512, sized_yes, given_out_is_accepted, given_out_is_written, same_list}

-- ---- a call knows its number by the set that it asks for, and by nothing else
module _ (n m : ℕ) (same : asked_of n ≡ asked_of m) where
  pub same_calls : SameCalls n m
  unfolding key_test commitment commitment_with_rests responding response rebuild comparison writing_of
  same_calls = record {
    key_tests = λ f g a. rw same;
    commitments = λ a y1 y2 out. rw same;
    commitments_with_rests = λ a y1 y2 old. rw same;
    responses = λ key c. rw same;
    rebuilds = λ a c out. rw same;
    comparisons = λ claimed hashed. rw same;
    writers = λ form key z1 z2 l out. rw same;
    kappas = rw same;
    records = λ form. rw same;
  }

pub zero_is_four : ZeroIsFour
zero_is_four = same_calls _ _ (asked_zero ∙ sym (asked_back IV))

-- ---- the old default
pub default_one_lem : DefaultOne
default_one_lem = record {
  rebuild_zero = λ a c out. ap (λ (n : ℕ). rebuild n a c out) default_zero;
  rebuild_other = λ set a c out h. ap (λ (n : ℕ). rebuild n a c out) (default_other set h);
  comparison_zero = λ claimed hashed. ap (λ (n : ℕ). comparison n claimed hashed) default_zero;
  comparison_other = λ set claimed hashed h. ap (λ (n : ℕ). comparison n claimed hashed) (default_other set h);
}

-- ---- both sides
-- a call's number asks for one set
the_set : (set : ℕ) (s s' : Set) → asked_of set ≡ Some s → asked_of set ≡ Some s' → s ≡ s'
the_set set s s' e f = cc

-- a record of set 4 states it
states_four : (form : Form) (key : ℕ) (z1 z2 : List ℤ) (l tail : List ℕ) → get_or (record_of form (signature IV key z1 z2 l) ++ tail) 4 0 ≡ 4
unfolding record_of header_of fields_of bytes_of
states_four Plain key z1 z2 l tail = refl
states_four Packed key z1 z2 l tail = refl

pub default_on_both_sides : DefaultOnBothSides
default_on_both_sides form key c o count number z1 z2 before old out small e zero lb lo room =
    let given = given_out c count z1 z2 0 key number (e ∙ ap (λ (p : Outcome). responded p count number z1 z2) (zero_is o zero)) in
    let own = the_set 0 given.0 IV given.1 asked_zero in
    let accepted = given_out_is_accepted 0 key c o count number z1 z2 before old e zero lb lo in
    let same = the_set 0 accepted.0 IV accepted.1 asked_zero in
    let writes = given_out_is_written form 0 key IV c o count number z1 z2 out e zero asked_zero room in
    let after = record_of form (signature IV key z1 z2 c.list) ++ drop (total_of form IV) out in
    let own-number : number ≡ key = (unnumbered_of 0 key c o count number z1 z2 e).1 ∙ key_done o key zero in
    let back = written_reads form (offered 0 key z1 z2 c.list) out Done after small refl (rw own-number at writes) in
    let back-own = the_set 0 back.s IV back.asked asked_zero in (
      same_list 0 IV c.list asked_zero (rw own at given.2.list),
      rw same at accepted.2,
      rw same at accepted.3,
      (
        after,
        (Done, writes, refl),
        states_four form key z1 z2 c.list (drop (total_of form IV) out),
        rw back-own at back.reads,
      ),
    )

-- ---- sheets of set 1
-- a proper list has its set's count of places, and is none of a set with another
other_count : (s s' : Set) (l : List ℕ) → (kappa_of s ≡ kappa_of s' → ⊥) → proper_list s l ≡ true → proper_list s' l ≡ false
unfolding proper_list
other_count s s' l h proper = rw (ne_eqb (length l) (kappa_of s') (λ e. h (sym (proper_count s l proper) ∙ e)))

module _ (set : ℕ) (s : Set) (known : asked_of set ≡ Some s) (l : List ℕ) (improper : proper_list s l ≡ false) where
  comparison_improper : comparison set l l ≡ Err ImproperList
  unfolding comparison
  comparison_improper = rw (known, improper)

  rebuild_improper : (a : List ℕ) (z1 z2 : List ℤ) (out : List ℕ) → length a ≡ dimension → length z1 ≡ dimension → length z2 ≡ dimension → length out ≡ dimension
      → every is_residue a ≡ true → rebuild set a (claim z1 z2 l) out ≡ filled (Err ImproperList) out
  unfolding rebuild
  rebuild_improper a z1 z2 out la l1 l2 lo residues =
      rw (known, sized_yes a la, sized_yes z1 l1, sized_yes z2 l2, sized_yes out lo, residues, improper)

pub sheet_of_one : SheetOfOne
sheet_of_one key c o count number z1 z2 old e zero lo =
    let given = given_out c count z1 z2 1 key number (e ∙ ap (λ (p : Outcome). responded p count number z1 z2) (zero_is o zero)) in
    let own = the_set 1 given.0 I given.1 (asked_back I) in
    let passed = given.2 in
    let out = given.3 in
    let proper : proper_list I c.list ≡ true = rw own at passed.list in
    let improper = other_count I IV c.list fewer proper in
    let accepted = given_out_is_accepted 1 key c o count number z1 z2 old old e zero lo lo in
    let same = the_set 1 accepted.0 I accepted.1 (asked_back I) in (
      (
        (Err ImproperList),
        rebuild_improper 0 IV asked_zero c.list improper c.a z1 z2 old passed.key.long_a (ap length out.first ∙ z_first given.0 c passed)
            (ap length out.dagger ∙ daggers_512 given.0 c passed) lo (a_residues c.f c.g c.a passed.key.ranges),
        refl,
      ),
      rw (comparison_improper 0 IV asked_zero c.list improper),
      rw default_zero (rw same at accepted.3),
      rw default_zero (same_list 1 I c.list (asked_back I) proper),
    )
  where
    fewer : kappa_of I ≡ kappa_of IV → ⊥
    fewer e = omega (arith, e)
