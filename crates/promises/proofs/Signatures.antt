-- A signature that was given out, and what the response has let pass before it. Assumes nothing.
use mathlib.Core.Path.{◌≡◌, refl, sym, ap, ◌∙◌}
use mathlib.Core.Bool.{true}
use mathlib.Core.List.{List}
use Prim.Native.Nat.{ℕ}
use lib.IntN.{ℤ}
use lib.ListN.{length}
use Rattle.sets.specs.declared.Set.{Set}
use Rattle.std.specs.Prelude.{Some, Err}
use Rattle.sets.specs.Numbers.{dimension, asked_of}
use Rattle.answers.specs.Outcomes.{Outcome, Done, is_done}
use Rattle.answers.specs.declared.Refusal.TheVariants.{UnknownSet, WrongLength, CoefficientOutside, MaskOutside, ImproperList, DrawRejected, WordMissing}
use Rattle.vectors.specs.Places.{proper_list}
use Rattle.limits.specs.LengthRule.{length_rule}
use Rattle.keys.specs.Key.{in_range, proper_key}
use Rattle.commitment.specs.Commitment.{are_masks}
use Rattle.vectors.specs.Pairs.{Pair, pair}
use Rattle.choices.specs.Choices.{choices}
use Rattle.draw.specs.Draw.{walk_of}
use Rattle.masking.specs.Masking.{masked, first_trial, second_trial}
use Rattle.signing.specs.Response.{Lent, secret, drawing, Unnumbered, unnumbered, leaving, shortened, given, drawn, all_sized, early, response_for, responding, responded, response}
use Rattle.signing.proofs.Ways.{all_sized_lem}
use Rattle.signing.proofs.Numbered.{unnumbered_of}
use Rattle.promises.proofs.Passed.{must_passed, unless_passed, set_known, walk_accepted}
use Rattle.promises.proofs.Keys.{Tested}

-- ---- the parts of an answer
abbrev outcome_of : Unnumbered → Outcome
outcome_of (unnumbered o count z1 z2) = o

abbrev first_of : Unnumbered → List ℤ
first_of (unnumbered o count z1 z2) = z1

abbrev second_of : Unnumbered → List ℤ
second_of (unnumbered o count z1 z2) = z2

-- v, the sign choices, and z = y + v or y - v
abbrev pub chosen_of : Lent → Pair
chosen_of c = choices (secret c) c.list

abbrev pub answered_of : Lent → Pair
answered_of c = masked c.sign (pair c.y1 c.y2) (chosen_of c)

-- ---- what the tests before the draw have let pass
pub record Admitted (s : Set) (c : Lent) : Type 0 where
  pub key : Tested s c.f c.g c.a
  pub long_y1 : length c.y1 ≡ dimension
  pub long_y2 : length c.y2 ≡ dimension
  pub masks : are_masks c.y1 c.y2 ≡ true
  pub list : proper_list s c.list ≡ true

-- ---- z1 and z2 dagger, and the length rule that they keep
pub record GivenOut (s : Set) (c : Lent) (z1 z2 : List ℤ) : Type 0 where
  pub first : z1 ≡ (answered_of c).first
  pub dagger : z2 ≡ (shortened s (drawing c) (answered_of c)).second
  pub rule : length_rule s z1 z2 ≡ Done

module _ (c : Lent) (count : ℕ) (z1 z2 : List ℤ) where
  abbrev done : Unnumbered
  done = unnumbered Done count z1 z2

  given_drawn : (s : Set) → drawn s (drawing c) (chosen_of c) ≡ done → GivenOut s c z1 z2
  unfolding drawn
  given_drawn s h =
      let old = pair c.z1 c.z2 in
      let z = shortened s (drawing c) (answered_of c) in
      let walk =
      walk_accepted outcome_of (walk_of (first_trial s (chosen_of c)) (second_trial (answered_of c) (chosen_of c)) c.words c.thresholds)
      (λ n. given s old n z) (λ n. leaving old n (Err DrawRejected)) (leaving old (length c.words) (Err WordMissing))
      (λ n. refl) refl (ap (λ r. is_done (outcome_of r)) h) in
      let rule = unless_passed outcome_of (length_rule s z.first z.second) (leaving old walk.0) (leaving z walk.0 Done) refl walk.1 in
      let is : done ≡ leaving z walk.0 Done = sym h ∙ walk.2 ∙ rule.2 in
      let first_is : z1 ≡ z.first = ap first_of is in
      let dagger_is : z2 ≡ z.second = ap second_of is in
      record { first = first_is; dagger = dagger_is; rule = rw (first_is, dagger_is) rule.0 }

  given_for : (s : Set) → response_for s c ≡ done → Admitted s c × GivenOut s c z1 z2
  unfolding response_for
  given_for s h =
      let one = must_passed outcome_of (all_sized c) (early c (Err WrongLength)) _ refl (ap (λ r. is_done (outcome_of r)) h) in
      let two = must_passed outcome_of (in_range c.f c.g c.a) (early c (Err CoefficientOutside)) _ refl one.1 in
      let three = must_passed outcome_of (are_masks c.y1 c.y2) (early c (Err MaskOutside)) _ refl two.1 in
      let four = must_passed outcome_of (proper_list s c.list) (early c (Err ImproperList)) _ refl three.1 in
      let five = unless_passed outcome_of (proper_key s c.f c.g c.a) (early c) (drawn s (drawing c) (chosen_of c)) refl four.1 in
      let long = all_sized_lem c one.0 in (
        record {
          key = record {
            long_f = long.0.0;
            long_g = long.0.1;
            long_a = long.0.2;
            ranges = two.0;
            proper = five.0;
          };
          long_y1 = long.1.0;
          long_y2 = long.1.1;
          masks = three.0;
          list = four.0;
        },
        given_drawn s (sym five.2 ∙ sym four.2 ∙ sym three.2 ∙ sym two.2 ∙ sym one.2 ∙ h),
      )

  given_unnumbered : (set : ℕ) → responding set c ≡ done → (s : Set) × (asked_of set ≡ Some s) × Admitted s c × GivenOut s c z1 z2
  unfolding responding
  given_unnumbered set h =
      let known = set_known outcome_of (asked_of set) (early c (Err UnknownSet)) (λ s. response_for s c) refl (ap (λ r. is_done (outcome_of r)) h) in
      let both = given_for known.0 (sym known.3 ∙ h) in
      (known.0, known.1, both.0, both.1)

  pub given_out : (set key back : ℕ) → response set key c ≡ responded Done count back z1 z2 → (s : Set) × (asked_of set ≡ Some s) × Admitted s c × GivenOut s c z1 z2
  given_out set key back h = given_unnumbered set (unnumbered_of set key c Done count back z1 z2 h).0
