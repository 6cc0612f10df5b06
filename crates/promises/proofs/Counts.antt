-- The counts of a key: what passes the key test, the squared length, and that refusal 7 can't occur. Assumes nothing.
use mathlib.Core.Path.{◌≡◌, refl, subst}
use mathlib.Core.Logic.{◌⊎◌, inl, inr, ⊎_elim}
use mathlib.Core.Bool.{Bool, true, false, ◌&&◌, cond}
use mathlib.Core.List.{List, [], ◌∷◌}
use Prim.Native.Nat.{ℕ, zero, suc, ◌+◌, ◌≤◌}
use native.Mathlib.Omega.{arith}
use borrow.Author.Tests.{eqb-true, eqb-false, eq-eqb, ne_eqb, leb-true, le-leb}
use lib.Dec.{eqb, lit≤}
use lib.IntN.{ℤ, nat_abs}
use lib.ListN.{length}
use Rattle.laws.specs.Lists.{every}
use Rattle.laws.proofs.Chain.{and_left, and_right, must_cases}
use Rattle.sets.specs.declared.Set.{Set}
use Rattle.std.specs.Prelude.{Some, Err}
use Rattle.sets.specs.Numbers.{dimension, key_limit_of, ones_of, twos_of, asked_of}
use Rattle.sets.proofs.Alike.{computed, of_all, counts_fit}
use Rattle.answers.specs.Outcomes.{Outcome, number_of, is_done, Filled, filled}
use Rattle.answers.specs.declared.Refusal.TheVariants.{UnknownSet, WrongLength, CoefficientOutside, MaskOutside, ImproperList}
use Rattle.answers.proofs.Calls.{zero_is}
use Rattle.vectors.specs.Vectors.{sized, squares}
use Rattle.vectors.specs.Pairs.{Pair, pair, squares_pair}
use Rattle.vectors.specs.Places.{proper_list}
use Rattle.limits.specs.LengthRule.{length_rule}
use Rattle.keys.specs.Key.{is_small, is_residue, in_range, second, relation, counted, has_counts, right_counts, proper_key, key_test}
use Rattle.keys.proofs.Ranges.{f_small, g_small, a_residues}
use Rattle.keys.proofs.Counts.{counts_short, counts_length, proper_by_relation, improper_by_counts}
use Rattle.choices.specs.Choices.{choices}
use Rattle.commitment.specs.Commitment.{are_masks, tested, commitment, Outputs, WithRests, with_rests, commitment_with_rests}
use Rattle.signing.specs.Response.{Lent, secret, Drawing, drawing, Unnumbered, unnumbered, drawn, all_sized, early, response_for, responding}
use Rattle.signing.proofs.Numbered.{unnumbered_of}
use Rattle.checking.specs.Checking.{Claim, rebuild, comparison}
use Rattle.record_forms.specs.Sections.{Fetched, fetched, section_of}
use Rattle.records.specs.Signatures.{Signature, refusal_for, refusal_of}
use Rattle.record_forms.specs.declared.Form.{Form}
use Rattle.records.specs.Writer.{put_to, recorded_to, writing_for, Offered, writing_of}
use Rattle.records.specs.Reader.{Found, found, Buffers, reading_for, reading_of}
use Rattle.records.specs.Conversion.{conversion_of}
use Rattle.promises.specs.Counts.{Counts, KeyPasses, KeyLength, KeyWithinLimit, largest_first, LimitReached, NoKeyTooLong}
use Rattle.promises.proofs.Keys.{key_counts, key_related, key_tested_some}
use Rattle.promises.proofs.Agreement.{sized_yes}
use Rattle.promises.proofs.Refusals.{Holds, must_either, set_either, ways, late_rule, filled_answer, rests_answer, found_answer, unnumbered_answer}

-- ---- the rest is zero

-- how many coefficients are of size 0, 1 or 2
abbrev small : List ℤ → ℕ
small f = counted 0 f + counted 1 f + counted 2 f

-- whether one of them is
abbrev is_one : ℕ → ℕ
is_one n = cond (eqb n 0) 1 0 + cond (eqb n 1) 1 0 + cond (eqb n 2) 1 0

one_within : (n : ℕ) → n ≤ 2 → is_one n ≡ 1
one_within zero h = refl
one_within (suc zero) h = refl
one_within (suc (suc zero)) h = refl
one_within (suc (suc (suc n))) h = absurd (omega arith)

one_beyond : (n : ℕ) → (n ≤ 2) ⊎ (is_one n ≡ 0)
one_beyond zero = inl (lit≤ tt)
one_beyond (suc zero) = inl (lit≤ tt)
one_beyond (suc (suc zero)) = inl (lit≤ tt)
one_beyond (suc (suc (suc n))) =
    let m = suc (suc (suc n)) in
    inr (rw (ne_eqb m 0 (λ e. omega (arith, e)), ne_eqb m 1 (λ e. omega (arith, e)), ne_eqb m 2 (λ e. omega (arith, e))))

-- with coefficients -2 .. 2 all are
small_all : (f : List ℤ) → every is_small f ≡ true → small f ≡ length f
unfolding every counted
small_all [] e = refl
small_all (x ∷ f) e =
    omega (arith, one_within (nat_abs x) (leb-true _ _ (and_left (is_small x) _ e)), small_all f (and_right (is_small x) _ e))

small_some : (f : List ℤ) → small f ≤ length f
unfolding counted
small_some [] = lit≤ tt
small_some (x ∷ f) =
    ⊎_elim (λ h. omega (arith, one_within (nat_abs x) h, small_some f)) (λ h. omega (arith, h, small_some f)) (one_beyond (nat_abs x))

-- and where all are they are -2 .. 2
all_small : (f : List ℤ) → small f ≡ length f → every is_small f ≡ true
unfolding every counted
all_small [] e = refl
all_small (x ∷ f) e =
    ⊎_elim
    (λ h. rw (le-leb (nat_abs x) 2 h) (all_small f (omega (arith, e, one_within (nat_abs x) h))))
    (λ h. absurd (omega (arith, e, h, small_some f)))
    (one_beyond (nat_abs x))

-- ---- the counts as the definition asks for them, and as they are stated
module _ (s : Set) (f : List ℤ) where
  counts_of : length f ≡ dimension → every is_small f ≡ true → has_counts s f ≡ true → Counts s f
  counts_of long range e =
      let ones = eqb-true (counted 1 f) (ones_of s) (and_left _ _ e) in
      let twos = eqb-true (counted 2 f) (twos_of s) (and_right (eqb (counted 1 f) (ones_of s)) _ e) in
      record { long = long; ones = ones; twos = twos; zeros = omega (arith, long, ones, twos, small_all f range) }

  module _ (c : Counts s f) where
    range_of : every is_small f ≡ true
    range_of = all_small f (omega (arith, c.long, c.ones, c.twos, c.zeros, counts_fit s))

    has_counts_lem : has_counts s f ≡ true
    has_counts_lem = rw (eq-eqb _ _ c.ones, eq-eqb _ _ c.twos)

both_counts : (s : Set) (f g : List ℤ) → Counts s f → Counts s g → right_counts s f g ≡ true
both_counts s f g cf cg = rw (has_counts_lem s f cf, has_counts_lem s g cg)

-- ---- what passes the key test
passes_counts : (set : ℕ) (f g : List ℤ) (a : List ℕ) → number_of (key_test set f g a) ≡ 0
    → (s : Set) × (asked_of set ≡ Some s) × Counts s f × Counts s g × (length a ≡ dimension) × (every is_residue a ≡ true) × (relation a f (second g) ≡ true)
passes_counts set f g a h =
    let tested = key_tested_some set f g a (zero_is _ h) in
    let s = tested.0 in
    let key = tested.2 in
    let counts = key_counts s f g a key.proper in (
      s,
      tested.1,
      counts_of s f key.long_f (f_small f g a key.ranges) (and_left (has_counts s f) _ counts),
      counts_of s g key.long_g (g_small f g a key.ranges) (and_right (has_counts s f) _ counts),
      key.long_a,
      a_residues f g a key.ranges,
      key_related s f g a key.proper,
    )

in_range_lem : (s : Set) (f g : List ℤ) (a : List ℕ) → Counts s f → Counts s g → every is_residue a ≡ true → in_range f g a ≡ true
unfolding in_range
in_range_lem s f g a cf cg residues = rw (range_of s f cf, range_of s g cg, residues)

counts_pass : (set : ℕ) (s : Set) (f g : List ℤ) (a : List ℕ) → asked_of set ≡ Some s → Counts s f → Counts s g
    → length a ≡ dimension → every is_residue a ≡ true → relation a f (second g) ≡ true → number_of (key_test set f g a) ≡ 0
unfolding key_test
counts_pass set s f g a known cf cg long residues related =
    let range = in_range_lem s f g a cf cg residues in
    rw (
      known,
      sized_yes f cf.long,
      sized_yes g cg.long,
      sized_yes a long,
      range,
      proper_by_relation s f g a range (both_counts s f g cf cg),
      related,
    )

pub key_passes : KeyPasses
key_passes set f g a =
    (passes_counts set f g a, λ h. counts_pass set h.0 f g a h.1 h.2 h.3 h.4 h.5 h.6)

-- ---- the squared length
pub key_length : KeyLength
key_length s f g cf cg =
    counts_length s f g (range_of s f cf) (range_of s g cg) (both_counts s f g cf cg) (omega (arith, cg.long))

pub key_within_limit : KeyWithinLimit
key_within_limit s f g cf cg = counts_short s f g (range_of s f cf) (range_of s g cg) (both_counts s f g cf cg)

-- computed by the checker for all sets
abbrev reaches : Set → Bool
reaches s =
    let f = largest_first s in
    eqb (length f) dimension && (every is_small f && (has_counts s f && eqb (squares_pair (pair f (second f))) (key_limit_of s)))

reached : computed reaches ≡ true
unfolding every counted squares second
reached = refl

pub limit_reached : LimitReached
limit_reached s =
    let f = largest_first s in
    let one = of_all reaches reached s in
    let two = and_right (eqb (length f) dimension) _ one in
    let three = and_right (every is_small f) _ two in (
      counts_of s f (eqb-true _ _ (and_left _ _ one)) (and_left (every is_small f) _ two) (and_left (has_counts s f) _ three),
      eqb-true _ _ (and_right (has_counts s f) _ three),
    )

-- ---- no call answers 7
abbrev NotSeven : {A : Type 0} → (A → ℕ) → A → Type 0
NotSeven number x = number x ≡ 7 → ⊥

other : (o : Outcome) → eqb (number_of o) 7 ≡ false → Holds (NotSeven number_of) o
other o e = record { is = eqb-false (number_of o) 7 e }

by_rule : (s : Set) (z1 z2 : List ℤ) → Holds (NotSeven number_of) (length_rule s z1 z2)
by_rule s z1 z2 = record { is = λ h. absurd (omega (arith, h, (late_rule s z1 z2).is (omega (arith, h)))) }

by_tests : (long : Bool) (a : List ℕ) (y1 y2 : List ℤ) → Holds (NotSeven number_of) (tested long a y1 y2)
unfolding tested
by_tests long a y1 y2 = search (ways, other)

by_refusal : (g : Signature) → Holds (NotSeven number_of) (refusal_of g)
unfolding refusal_for
by_refusal g = search (ways, other, by_rule)

-- a key in range
proper_key_lem : (s : Set) (f g : List ℤ) (a : List ℕ) → in_range f g a ≡ true → Holds (NotSeven number_of) (proper_key s f g a)
proper_key_lem s f g a range = pick (right_counts s f g) refl
  where
    pick : (b : Bool) → right_counts s f g ≡ b → Holds (NotSeven number_of) (proper_key s f g a)
    pick true e = rw (proper_by_relation s f g a range e) (search (ways, other))
    pick false e = rw (improper_by_counts s f g a e) (search (ways, other))

key_test_lem : (set : ℕ) (f g : List ℤ) (a : List ℕ) → Holds (NotSeven number_of) (key_test set f g a)
unfolding key_test
key_test_lem set f g a =
    set_either (asked_of set) (Err UnknownSet) _ (other (Err UnknownSet) refl)
    (λ s. must_either (sized f && (sized g && sized a)) (Err WrongLength) _ (other (Err WrongLength) refl)
    (must_cases (Holds (NotSeven number_of)) (in_range f g a) (Err CoefficientOutside) _ (proper_key_lem s f g a) (λ e. other (Err CoefficientOutside) refl)))

comparison_holds : (set : ℕ) (claimed hashed : List ℕ) → Holds (NotSeven number_of) (comparison set claimed hashed)
unfolding comparison
comparison_holds set claimed hashed = search (ways, other)

-- the number beside what a call leaves behind is that of its outcome
abbrev of_response : Unnumbered → ℕ
of_response x = number_of (unnumbered_answer x)

abbrev of_filled : Filled → ℕ
of_filled x = number_of (filled_answer x)

abbrev of_rests : WithRests → ℕ
of_rests x = number_of (rests_answer x)

abbrev of_reading : Found → ℕ
of_reading x = number_of (found_answer x)

abbrev of_section : Fetched → ℕ
of_section (fetched at bytes number place) = number

in_response : (o : Outcome) (count : ℕ) (z1 z2 : List ℤ) → Holds (NotSeven number_of) o → Holds (NotSeven of_response) (unnumbered o count z1 z2)
in_response o count z1 z2 h = record { is = h.is }

in_filled : (o : Outcome) (out : List ℕ) → Holds (NotSeven number_of) o → Holds (NotSeven of_filled) (filled o out)
in_filled o out h = record { is = h.is }

in_rests : (o : Outcome) (digits : List ℕ) (rests : List ℤ) → Holds (NotSeven number_of) o → Holds (NotSeven of_rests) (with_rests o digits rests)
in_rests o digits rests h = record { is = h.is }

in_reading : (o : Outcome) (set key : ℕ) (b : Buffers) → Holds (NotSeven number_of) o → Holds (NotSeven of_reading) (found o set key b)
in_reading o set key b h = record { is = h.is }

in_section : (at : ℕ × ℕ) (bytes : List ℕ) (number place : ℕ) → eqb number 7 ≡ false → Holds (NotSeven of_section) (fetched at bytes number place)
in_section at bytes number place e = record { is = eqb-false number 7 e }

ruleset others = (ways, other, by_rule, by_tests, by_refusal, in_response, in_filled, in_rests, in_reading, in_section)

draw_holds : (s : Set) (d : Drawing) (v : Pair) → Holds (NotSeven of_response) (drawn s d v)
unfolding drawn
draw_holds s d v = search others depth 10

response_for_lem : (s : Set) (c : Lent) → Holds (NotSeven of_response) (response_for s c)
unfolding response_for
response_for_lem s c =
    must_either (all_sized c) (early c (Err WrongLength)) _ (in_response (Err WrongLength) 0 _ _ (other (Err WrongLength) refl))
    (must_cases (Holds (NotSeven of_response)) (in_range c.f c.g c.a) (early c (Err CoefficientOutside)) _
    (λ range.
    must_either (are_masks c.y1 c.y2) (early c (Err MaskOutside)) _ (in_response (Err MaskOutside) 0 _ _ (other (Err MaskOutside) refl))
    (must_either (proper_list s c.list) (early c (Err ImproperList)) _ (in_response (Err ImproperList) 0 _ _ (other (Err ImproperList) refl))
    (must_either (is_done (proper_key s c.f c.g c.a)) (early c (proper_key s c.f c.g c.a)) _
    (in_response _ 0 _ _ (proper_key_lem s c.f c.g c.a range)) (draw_holds s (drawing c) (choices (secret c) c.list)))))
    (λ e. in_response (Err CoefficientOutside) 0 _ _ (other (Err CoefficientOutside) refl)))

response_holds : (set : ℕ) (c : Lent) → Holds (NotSeven of_response) (responding set c)
unfolding responding
response_holds set c = set_either (asked_of set) (early c (Err UnknownSet)) (λ s. response_for s c) (in_response (Err UnknownSet) 0 _ _ (other (Err UnknownSet) refl)) (λ s. response_for_lem s c)

commitment_holds : (set : ℕ) (a : List ℕ) (y1 y2 : List ℤ) (out : List ℕ) → Holds (NotSeven of_filled) (commitment set a y1 y2 out)
unfolding commitment
commitment_holds set a y1 y2 out = search others

with_rests_holds : (set : ℕ) (a : List ℕ) (y1 y2 : List ℤ) (old : Outputs) → Holds (NotSeven of_rests) (commitment_with_rests set a y1 y2 old)
unfolding commitment_with_rests
with_rests_holds set a y1 y2 old = search others

rebuild_holds : (set : ℕ) (a : List ℕ) (c : Claim) (out : List ℕ) → Holds (NotSeven of_filled) (rebuild set a c out)
unfolding rebuild
rebuild_holds set a c out = search others depth 10

writer_holds : (form : Form) (a : Offered) (out : List ℕ) → Holds (NotSeven of_filled) (writing_of form a out)
unfolding writing_of writing_for recorded_to put_to
writer_holds form a out = search others depth 10

reader_holds : (form : Form) (rec : List ℕ) (old : Buffers) → Holds (NotSeven of_reading) (reading_of form rec old)
unfolding reading_of reading_for
reader_holds form rec old = search others depth 10

conversion_holds : (from to : Form) (rec out : List ℕ) → Holds (NotSeven of_filled) (conversion_of from to rec out)
unfolding conversion_of recorded_to put_to
conversion_holds from to rec out = search others depth 10

section_holds : (from to : ℕ) (p : ℕ × ℕ) (rec : List ℕ) → Holds (NotSeven of_section) (section_of from to p rec)
unfolding section_of
section_holds from to p rec = search others

pub no_key_too_long : NoKeyTooLong
no_key_too_long = record {
  key_tests = λ set f g a. (key_test_lem set f g a).is;
  responses = λ set key c o count back z1 z2 e. subst (NotSeven of_response) (unnumbered_of set key c o count back z1 z2 e).0 (response_holds set c).is;
  commitments = λ set a y1 y2 out o after e. subst (NotSeven of_filled) e (commitment_holds set a y1 y2 out).is;
  commitments_with_rests = λ set a y1 y2 old o digits rests e. subst (NotSeven of_rests) e (with_rests_holds set a y1 y2 old).is;
  rebuilds = λ set a c out o after e. subst (NotSeven of_filled) e (rebuild_holds set a c out).is;
  comparisons = λ set claimed hashed. (comparison_holds set claimed hashed).is;
  writers = λ form a out o after e. subst (NotSeven of_filled) e (writer_holds form a out).is;
  readers = λ form rec old o set key after e. subst (NotSeven of_reading) e (reader_holds form rec old).is;
  conversions = λ from to rec out o after e. subst (NotSeven of_filled) e (conversion_holds from to rec out).is;
  sections = λ from to p rec at bytes number place e. subst (NotSeven of_section) e (section_holds from to p rec).is;
}
