-- 02, C-22: sets 5 to 8, with longer challenges. Each statement is proved in proofs/Longer.antt under its own name.
use Rattle.std.specs.Prelude.{◌≡◌, List, [], ◌∷◌, map, ℕ, ◌+◌, ◌<◌, ◌≤◌, ℤ, Some, Err}
use Rattle.sets.specs.declared.Set.{Set}
use Rattle.sets.specs.Numbers.{all, d_of, p_of, largest_of, bound_squared_of, key_limit_of, ones_of, twos_of, set_number_of, asked_of}
use Rattle.answers.specs.declared.Refusal.TheVariants.{UnknownSet}
use Rattle.answers.specs.Outcomes.{number_of}
use Rattle.answers.specs.Sizes.{kappa_asked}
use Rattle.limits.specs.LengthRule.{length_rule}
use Rattle.keys.specs.Key.{key_test}
use Rattle.commitment.specs.Commitment.{commitment, Outputs, keeping, commitment_with_rests}
use Rattle.signing.specs.Response.{Lent, early, numbered, response}
use Rattle.checking.specs.Checking.{Claim, rebuild, comparison}
use Rattle.record_forms.specs.declared.Form.{Form}
use Rattle.record_forms.specs.declared.Form.TheVariants.{Plain}
use Rattle.record_forms.specs.Forms.{total_of}
use Rattle.record_forms.specs.Sizes.{record_bytes_asked}
use Rattle.records.specs.Writer.{offered, writing_of}
use Rattle.promises.specs.Defaults.{Refuses}

-- the numbers of a set beside its number and kappa
abbrev pub others : Set → List ℕ
others s = d_of s ∷ p_of s ∷ largest_of s ∷ bound_squared_of s ∷ key_limit_of s ∷ ones_of s ∷ twos_of s ∷ []

-- s' is the set four numbers above s
abbrev pub Above : Set → Set → Type 0
Above s s' = set_number_of s' ≡ set_number_of s + 4

-- "Add sets 5 to 8 with these sizes and otherwise the numbers of sets 1 to 4 [..] Plain totals are 1676, 1676, 1724 and 1786": there are eight sets, of these
-- totals, so of the sizes that are half of what a total has above 1560; and the other numbers of a set are those of the set four numbers above it
pub record LongerSets : Type 0 where
  pub numbers : map set_number_of all ≡ 1 ∷ 2 ∷ 3 ∷ 4 ∷ 5 ∷ 6 ∷ 7 ∷ 8 ∷ []
  pub totals : map (total_of Plain) all ≡ 1606 ∷ 1606 ∷ 1620 ∷ 1638 ∷ 1676 ∷ 1676 ∷ 1724 ∷ 1786 ∷ []
  pub otherwise : (s s' : Set) → Above s s' → others s' ≡ others s

-- Two sets that differ in their lists alone: key test and both commitments leave behind the same with either, and "we keep their length limits".
pub record SameKeys (s s' : Set) : Type 0 where
  pub key_tests : (f g : List ℤ) (a : List ℕ) → key_test (set_number_of s') f g a ≡ key_test (set_number_of s) f g a
  pub commitments : (a : List ℕ) (y1 y2 : List ℤ) (out : List ℕ) → commitment (set_number_of s') a y1 y2 out ≡ commitment (set_number_of s) a y1 y2 out
  pub commitments_with_rests : (a : List ℕ) (y1 y2 : List ℤ) (old : Outputs)
      → commitment_with_rests (set_number_of s') a y1 y2 old ≡ commitment_with_rests (set_number_of s) a y1 y2 old
  pub length_rules : (z1 z2 : List ℤ) → length_rule s' z1 z2 ≡ length_rule s z1 z2

abbrev pub KeysOfFour : Type 0
KeysOfFour = (s s' : Set) → Above s s' → SameKeys s s'

-- A number that stands for no set: every call that takes a set answers 1 and leaves its outputs as they were, whatever else it is lent.
pub record NoSet (n : ℕ) : Type 0 where
  pub key_tests : (f g : List ℤ) (a : List ℕ) → number_of (key_test n f g a) ≡ 1
  pub commitments : (a : List ℕ) (y1 y2 : List ℤ) (out : List ℕ) → Refuses 1 (commitment n a y1 y2 out) out
  pub commitments_with_rests : (a : List ℕ) (y1 y2 : List ℤ) (old : Outputs) → commitment_with_rests n a y1 y2 old ≡ keeping old (Err UnknownSet)
  pub responses : (key : ℕ) (c : Lent) → response n key c ≡ numbered key (early c (Err UnknownSet))
  pub rebuilds : (a : List ℕ) (c : Claim) (out : List ℕ) → Refuses 1 (rebuild n a c out) out
  pub comparisons : (claimed hashed : List ℕ) → number_of (comparison n claimed hashed) ≡ 1
  pub writers : (form : Form) (key : ℕ) (z1 z2 : List ℤ) (l out : List ℕ) → Refuses 1 (writing_of form (offered n key z1 z2 l) out) out
  pub kappas : kappa_asked n ≡ 0
  pub records : (form : Form) → record_bytes_asked form n ≡ 0

-- "Refusals: 1 now above 8", and not below
abbrev pub SetAbove : Type 0
SetAbove = (n : ℕ) → (8 < n → NoSet n) × (n ≤ 8 → (s : Set) × (asked_of n ≡ Some s))
