-- 02, C-22: eight sets, of which the second four have the keys and limits of the first. Assumes nothing.
use mathlib.Core.Path.{◌≡◌, refl, sym, ap, ◌∙◌}
use mathlib.Core.Bool.{Bool, true, false, cond}
use mathlib.Core.List.{List, map_congr_left}
use Prim.Native.Nat.{ℕ, ◌+◌, ◌<◌, ◌≤◌}
use native.Mathlib.Omega.{arith}
use lib.Dec.{eqb}
use borrow.Author.Tests.{eq-eqb}
use lib.IntN.{ℤ}
use lib.ListN.{get_or}
use Rattle.laws.specs.Lists.{every, same, tabulate}
use Rattle.laws.proofs.Chain.{differ}
use Rattle.laws.proofs.Loops.{same_is}
use Rattle.laws.proofs.Entries.{length-tabulate, get_or-tabulate, every_at}
use Rattle.sets.specs.declared.Set.{Set}
use Rattle.std.specs.Prelude.{Option, Some, None, Err}
use Rattle.sets.specs.Numbers.{set_number_of, last_number, numbered, named_of, asked_of}
use Rattle.sets.proofs.Alike.{computed, of_all, named_is, number_within, asked_named, asked_back}
use Rattle.answers.specs.declared.Refusal.TheVariants.{UnknownSet}
use Rattle.rounding.specs.Rounding.{quotient, upper, rest}
use Rattle.limits.specs.LengthRule.{length_rule}
use Rattle.keys.specs.Key.{proper_key, key_test}
use Rattle.commitment.specs.Commitment.{sums, committed, rests_of, commitment, commitment_with_rests}
use Rattle.signing.specs.Response.{responding, response}
use Rattle.checking.specs.Checking.{rebuild, comparison}
use Rattle.records.specs.Writer.{writing_of}
use Rattle.promises.specs.Longer.{others, Above, LongerSets, KeysOfFour, NoSet, SetAbove}

-- ---- the numbers of sets 5 to 8 are those of sets 1 to 4, in their order
abbrev alike : Set → Set → Bool
alike s s' = cond (eqb (set_number_of s') (set_number_of s + 4)) (same (others s') (others s)) true

-- computed by the checker for all pairs of sets
all_alike : computed (λ s. computed (alike s)) ≡ true
unfolding same
all_alike = refl

same_others : (s s' : Set) → Above s s' → others s' ≡ others s
same_others s s' e =
    let both = of_all (alike s) (of_all (λ t. computed (alike t)) all_alike s) s' in
    same_is (others s') (others s) (rw (eq-eqb _ _ e) at both)

pub longer_sets : LongerSets
longer_sets = record { numbers = refl; totals = refl; otherwise = same_others }

module _ (s s' : Set) (above : Above s s') where
  -- in the order of `others`: d, p, largest, B2 squared, K, d1, d2
  entry : (k : ℕ) → get_or (others s') k 0 ≡ get_or (others s) k 0
  entry k = ap (λ (l : List ℕ). get_or l k 0) (same_others s s' above)

  same_upper : (x : ℕ) → upper s' x ≡ upper s x
  unfolding upper quotient
  same_upper x = rw (entry 0, entry 1)

  same_rest : (x : ℕ) → rest s' x ≡ rest s x
  unfolding rest quotient
  same_rest x = rw (entry 0)

  same_committed : (a : List ℕ) (y1 y2 : List ℤ) → committed s' a y1 y2 ≡ committed s a y1 y2
  unfolding committed
  same_committed a y1 y2 = map_congr_left {l = sums a y1 y2} (λ x _. same_upper x)

  same_rests : (a : List ℕ) (y1 y2 : List ℤ) → rests_of s' a y1 y2 ≡ rests_of s a y1 y2
  unfolding rests_of
  same_rests a y1 y2 = map_congr_left {l = sums a y1 y2} (λ x _. same_rest x)

pub keys_of_four : KeysOfFour
unfolding key_test proper_key commitment commitment_with_rests length_rule
keys_of_four s s' e = record {
  key_tests = λ f g a. rw (asked_back s', asked_back s, entry s s' e 4, entry s s' e 5, entry s s' e 6);
  commitments = λ a y1 y2 out. rw (asked_back s', asked_back s, same_committed s s' e a y1 y2);
  commitments_with_rests = λ a y1 y2 old. rw (asked_back s', asked_back s, same_committed s s' e a y1 y2, same_rests s s' e a y1 y2);
  length_rules = λ z1 z2. rw (entry s s' e 0, entry s s' e 2, entry s s' e 3);
}

-- ---- no set above 8
unknown_above : (n : ℕ) → last_number < n → asked_of n ≡ None
unknown_above n h = answer (asked_of n) refl
  where
    answer : (a : Option Set) → asked_of n ≡ a → a ≡ None
    answer None e = refl
    answer (Some s) e = absurd (omega (arith, h, number_within s, named_is s n (sym (asked_named n (λ z. omega (arith, h, z))) ∙ e)))

abbrev is_known : Option Set → Bool
is_known None = false
is_known (Some s) = true

known_is : (a : Option Set) → is_known a ≡ true → (s : Set) × (a ≡ Some s)
known_is None e = absurd (differ e)
known_is (Some s) e = (s, refl)

-- computed by the checker
known_to_last : every is_known (tabulate asked_of (last_number + 1)) ≡ true
unfolding every tabulate asked_of named_of numbered
known_to_last = refl

known_within : (n : ℕ) → n ≤ last_number → (s : Set) × (asked_of n ≡ Some s)
known_within n h =
    let k : n < last_number + 1 = omega (arith, h) in
    let long = length-tabulate asked_of (last_number + 1) in
    let known = every_at is_known (tabulate asked_of (last_number + 1)) n None known_to_last (omega (arith, k, long)) in
    known_is (asked_of n) (rw (get_or-tabulate asked_of (last_number + 1) n None k) at known)

no_set : (n : ℕ) → asked_of n ≡ None → NoSet n
unfolding key_test commitment commitment_with_rests responding response rebuild comparison writing_of
no_set n e = record {
  key_tests = λ f g a. rw e;
  commitments = λ a y1 y2 out. ((Err UnknownSet), rw e, refl);
  commitments_with_rests = λ a y1 y2 old. rw e;
  responses = λ key c. rw e;
  rebuilds = λ a c out. ((Err UnknownSet), rw e, refl);
  comparisons = λ claimed hashed. rw e;
  writers = λ form key z1 z2 l out. ((Err UnknownSet), rw e, refl);
  kappas = rw e;
  records = λ form. rw e;
}

pub set_above : SetAbove
set_above n = (λ h. no_set n (unknown_above n h), known_within n)
