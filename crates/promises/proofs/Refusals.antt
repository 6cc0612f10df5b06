-- Demand 1: no refusal writes to an output buffer; and the word count of a refused response. Assumes nothing.
use mathlib.Core.Path.{◌≡◌, refl, ap, ◌∙◌, subst}
use mathlib.Core.Bool.{Bool, true, false}
use mathlib.Core.List.{List, [], ◌∷◌}
use Prim.Native.Nat.{ℕ, suc, ◌*◌, ◌≤◌}
use native.Mathlib.Omega.{arith}
use borrow.Author.Rules.{rules}
use borrow.Author.Tests.{eqb-false}
use lib.Dec.{eqb, leb, lit≤}
use lib.IntN.{ℤ, nat_abs}
use lib.ListN.{length}
use Rattle.laws.specs.Refusals.{must}
use Rattle.sets.specs.declared.Set.{Set}
use Rattle.std.specs.Prelude.{Option, Some, None, Ok, Err}
use Rattle.sets.specs.Numbers.{default_one}
use Rattle.answers.specs.Outcomes.{Outcome, Done, number_of, for_set, Filled, filled}
use Rattle.answers.specs.declared.Refusal.TheVariants.{DrawRejected, WordMissing, EntryBeyond, SumAbove}
use Rattle.answers.proofs.Calls.{zero_is}
use Rattle.limits.specs.LengthRule.{entries, length_rule}
use Rattle.keys.specs.Key.{proper_key}
use Rattle.commitment.specs.Commitment.{commitment, Outputs, WithRests, with_rests, commitment_with_rests}
use Rattle.draw.specs.declared.Ending.{Ending}
use Rattle.draw.specs.declared.Ending.TheVariants.{Accepted, Rejected, OutOfWords}
use Rattle.draw.specs.Draw.{after_walk}
use Rattle.signing.specs.Response.{Lent, Unnumbered, unnumbered, drawn, response_for, responding}
use Rattle.signing.proofs.Numbered.{key_refused, unnumbered_of}
use Rattle.checking.specs.Checking.{Claim, rebuild}
use Rattle.record_forms.specs.Headers.{Header, opened}
use Rattle.record_forms.specs.declared.Form.{Form}
use Rattle.records.specs.Writer.{put_to, recorded_to, writing_for, Offered, writing_of}
use Rattle.records.specs.Reader.{Found, found, Buffers, reading_for, reading_of}
use Rattle.records.specs.Conversion.{conversion_of}
use Rattle.promises.specs.Demands.{OnlyDone, CommitmentKeeps, CommitmentWithRestsKeeps, RebuildKeeps, RebuildDefaultOneKeeps, ResponseKeeps, WriterKeeps, ReaderKeeps, ConversionKeeps, ResponseCounts}

pub only_done : OnlyDone
only_done = (refl, zero_is)

-- ---- what holds of every way through a chain holds of its answer
pub record Holds {A : Type 0} (P : A → Type 0) (x : A) : Type 0 where
  pub is : P x

module _ {A : Type 0} {P : A → Type 0} where
  pub must_either : (test : Bool) (refusal next : A) → Holds P refusal → Holds P next → Holds P (must test refusal next)
  must_either true refusal next p q = q
  must_either false refusal next p q = p

  pub set_either : (asked : Option Set) (refusal : A) (next : Set → A) → Holds P refusal → ((s : Set) → Holds P (next s)) → Holds P (for_set asked refusal next)
  set_either (Some s) refusal next p q = q s
  set_either None refusal next p q = p

  pub walk_either : (ending : Ending) (accepted rejected : ℕ → A) (short : A) → ((n : ℕ) → Holds P (accepted n)) → ((n : ℕ) → Holds P (rejected n)) → Holds P short
      → Holds P (after_walk ending accepted rejected short)
  walk_either (Accepted n) accepted rejected short p q r = p n
  walk_either (Rejected n) accepted rejected short p q r = q n
  walk_either OutOfWords accepted rejected short p q r = r

  pub header_either : (header : Header) (malformed : ℕ → A) (states : Set → A) → ((place : ℕ) → Holds P (malformed place)) → ((s : Set) → Holds P (states s))
      → Holds P (opened header malformed states)
  header_either (Err m) malformed states p q = p m.place
  header_either (Ok s) malformed states p q = q s

pub ruleset ways = (rules, must_either, set_either, walk_either, header_either)

-- ---- what a call has left is what was there, where its answer is not 0: `answer` and `left` read these two off
abbrev Keeps : {A B : Type 0} → (A → Outcome) → (A → B) → B → A → Type 0
Keeps answer left old x = (number_of (answer x) ≡ 0 → ⊥) → left x ≡ old

module _ {A B : Type 0} (answer : A → Outcome) (left : A → B) (old : B) where
  kept : (x : A) → left x ≡ old → Holds (Keeps answer left old) x
  kept x e = record { is = λ n. e }

  done : (x : A) → answer x ≡ Done → Holds (Keeps answer left old) x
  done x e = record { is = λ n. absurd (n (ap number_of e)) }

ruleset ends = (refl, kept, done)

-- a vector
abbrev pub filled_answer : Filled → Outcome
filled_answer (filled o after) = o

abbrev filled_left : Filled → List ℕ
filled_left (filled o after) = after

commitment_holds : (set : ℕ) (a : List ℕ) (y1 y2 : List ℤ) (out : List ℕ) → Holds (Keeps filled_answer filled_left out) (commitment set a y1 y2 out)
unfolding commitment
commitment_holds set a y1 y2 out = search (ways, ends)

pub commitment_keeps : CommitmentKeeps
commitment_keeps set a y1 y2 out o after e = subst (Keeps filled_answer filled_left out) e (commitment_holds set a y1 y2 out).is

-- the digits and the rests
abbrev pub rests_answer : WithRests → Outcome
rests_answer (with_rests o digits rests) = o

abbrev rests_left : WithRests → List ℕ × List ℤ
rests_left (with_rests o digits rests) = (digits, rests)

with_rests_holds : (set : ℕ) (a : List ℕ) (y1 y2 : List ℤ) (old : Outputs) → Holds (Keeps rests_answer rests_left (old.digits, old.rests)) (commitment_with_rests set a y1 y2 old)
unfolding commitment_with_rests
with_rests_holds set a y1 y2 old = search (ways, ends)

pub commitment_with_rests_keeps : CommitmentWithRestsKeeps
commitment_with_rests_keeps set a y1 y2 old o digits rests e n =
    let same = subst (Keeps rests_answer rests_left (old.digits, old.rests)) e (with_rests_holds set a y1 y2 old).is n in
    (ap (λ (x : List ℕ × List ℤ). x.0) same, ap (λ (x : List ℕ × List ℤ). x.1) same)

rebuild_holds : (set : ℕ) (a : List ℕ) (c : Claim) (out : List ℕ) → Holds (Keeps filled_answer filled_left out) (rebuild set a c out)
unfolding rebuild
rebuild_holds set a c out = search (ways, ends) depth 10

pub rebuild_keeps : RebuildKeeps
rebuild_keeps set a c out o after e = subst (Keeps filled_answer filled_left out) e (rebuild_holds set a c out).is

-- it is the rebuild with another number
pub rebuild_default_one_keeps : RebuildDefaultOneKeeps
rebuild_default_one_keeps set = rebuild_keeps (default_one set)

writer_holds : (form : Form) (a : Offered) (out : List ℕ) → Holds (Keeps filled_answer filled_left out) (writing_of form a out)
unfolding writing_of writing_for recorded_to put_to
writer_holds form a out = search (ways, ends) depth 10

pub writer_keeps : WriterKeeps
writer_keeps form a out o after e = subst (Keeps filled_answer filled_left out) e (writer_holds form a out).is

conversion_holds : (from to : Form) (rec out : List ℕ) → Holds (Keeps filled_answer filled_left out) (conversion_of from to rec out)
unfolding conversion_of recorded_to put_to
conversion_holds from to rec out = search (ways, ends) depth 10

pub conversion_keeps : ConversionKeeps
conversion_keeps from to rec out o after e = subst (Keeps filled_answer filled_left out) e (conversion_holds from to rec out).is

-- the reader's set, its key number and its three buffers
abbrev pub found_answer : Found → Outcome
found_answer (found o set key after) = o

abbrev Kept : Type 0
Kept = ℕ × ℕ × Buffers

abbrev found_left : Found → Kept
found_left (found o set key after) = (set, key, after)

reader_holds : (form : Form) (rec : List ℕ) (old : Buffers) → Holds (Keeps found_answer found_left (0, 0, old)) (reading_of form rec old)
unfolding reading_of reading_for
reader_holds form rec old = search (ways, ends) depth 10

pub reader_keeps : ReaderKeeps
reader_keeps form rec old o set key after e n =
    let same = subst (Keeps found_answer found_left (0, 0, old)) e (reader_holds form rec old).is n in
    (ap (λ (x : Kept). x.0) same, ap (λ (x : Kept). x.1) same, ap (λ (x : Kept). x.2) same)

-- the response's two vectors
abbrev pub unnumbered_answer : Unnumbered → Outcome
unnumbered_answer (unnumbered o count after1 after2) = o

abbrev unnumbered_left : Unnumbered → List ℤ × List ℤ
unnumbered_left (unnumbered o count after1 after2) = (after1, after2)

-- ---- its count
abbrev Counts : ℕ → Unnumbered → Type 0
Counts lent (unnumbered o count after1 after2) = (1 ≤ number_of o → number_of o ≤ 7 → count ≡ 0) × (number_of o ≡ 15 → count ≡ 0) × (number_of o ≡ 9 → count ≡ lent)

-- the tests before the draw do not answer 9
abbrev Early : Outcome → Type 0
Early o = number_of o ≡ 9 → ⊥

early : (o : Outcome) → eqb (number_of o) 9 ≡ false → Holds Early o
early o h = record { is = eqb-false (number_of o) 9 h }

-- the length rule answers 0, 10 or 11
abbrev pub Late : Outcome → Type 0
Late o = 1 ≤ number_of o → (10 ≤ number_of o) × (number_of o ≤ 11)

late_beyond : (place : ℕ) → Holds Late (Err (EntryBeyond place))
late_beyond place = record { is = λ n. (lit≤ tt, lit≤ tt) }

late_above : Holds Late (Err SumAbove)
late_above = record { is = λ n. (lit≤ tt, lit≤ tt) }

late_done : Holds Late Done
late_done = record { is = λ n. absurd (omega arith) }

late_entries : (limit factor place : ℕ) (x : List ℤ) (next : Outcome) → Holds Late next → Holds Late (entries limit factor place x next)
unfolding entries
late_entries limit factor place [] next h = h
late_entries limit factor place (y ∷ x) next h =
    must_either (leb (factor * nat_abs y) limit) (Err (EntryBeyond place)) _ (late_beyond place) (late_entries limit factor (suc place) x next h)

pub late_rule : (s : Set) (z1 z2 : List ℤ) → Holds Late (length_rule s z1 z2)
unfolding length_rule
late_rule s z1 z2 = search (ways, late_above, late_done, late_entries)

early_key : (s : Set) (f g : List ℤ) (a : List ℕ) → Holds Early (proper_key s f g a)
unfolding proper_key
early_key s f g a = search (ways, early)

module _ (lent : ℕ) (z1 z2 : List ℤ) where
  counts_early : (o : Outcome) → Holds Early o → Holds (Counts lent) (unnumbered o 0 z1 z2)
  counts_early o h = record { is = (λ m n. refl, λ e. refl, λ e. absurd (h.is e)) }

  counts_short : Holds (Counts lent) (unnumbered (Err WordMissing) lent z1 z2)
  counts_short = record { is = (λ m n. absurd (omega arith), λ e. absurd (omega arith), λ e. refl) }

  counts_rejected : (count : ℕ) → Holds (Counts lent) (unnumbered (Err DrawRejected) count z1 z2)
  counts_rejected count = record { is = (λ m n. absurd (omega arith), λ e. absurd (omega arith), λ e. absurd (omega arith)) }

  counts_late : (count : ℕ) (o : Outcome) → Holds Late o → Holds (Counts lent) (unnumbered o count z1 z2)
  counts_late count o h =
      record { is = (λ m n. absurd (omega (arith, h.is m)), λ e. absurd (omega (arith, h.is (omega arith))), λ e. absurd (omega (arith, h.is (omega arith)))) }

module _ (set : ℕ) (c : Lent) where
  response_holds : Holds (Keeps unnumbered_answer unnumbered_left (c.z1, c.z2)) (responding set c)
  unfolding responding response_for drawn
  response_holds = search (ways, ends) depth 12

  count_holds : Holds (Counts (length c.words)) (responding set c)
  unfolding responding response_for drawn
  count_holds = search (ways, early, early_key, counts_early, late_rule, late_done, counts_late, counts_rejected, counts_short) depth 12

pub response_keeps : ResponseKeeps
response_keeps set key c o count back after1 after2 e n =
    let parts = unnumbered_of set key c o count back after1 after2 e in
    let same = subst (Keeps unnumbered_answer unnumbered_left (c.z1, c.z2)) parts.0 (response_holds set c).is n in
    (parts.1 ∙ key_refused o key n, ap (λ (x : List ℤ × List ℤ). x.0) same, ap (λ (x : List ℤ × List ℤ). x.1) same)

pub response_counts : ResponseCounts
response_counts set key c o count back after1 after2 e = subst (Counts (length c.words)) (unnumbered_of set key c o count back after1 after2 e).0 (count_holds set c).is
