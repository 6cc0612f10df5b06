-- The ways on through a response: a refusal before the draw, the lengths that were tested, and what the sign choices bring to the draw. Assumes nothing.
use mathlib.Core.Path.{◌≡◌, refl, sym, ap, ap₂, ◌∙◌}
use mathlib.Core.Bool.{Bool, true, false, ◌&&◌}
use mathlib.Core.List.{List}
use Prim.Native.Nat.{ℕ}
use borrow.Author.Tests.{eq-eqb, eqb-true}
use lib.IntN.{ℤ}
use lib.ListN.{length}
use Rattle.laws.specs.Refusals.{must}
use Rattle.laws.proofs.Chain.{differ, and_left, and_right}
use Rattle.sets.specs.declared.Set.{Set}
use Rattle.sets.specs.Numbers.{dimension, places}
use Rattle.answers.specs.Outcomes.{Outcome, Done, unless}
use Rattle.std.specs.Prelude.{Err}
use Rattle.answers.specs.declared.Refusal.{Refusal}
use Rattle.answers.specs.declared.Refusal.TheVariants.{WrongLength, RelationBroken, CountsWrong}
use Rattle.vectors.specs.Vectors.{sized}
use Rattle.keys.specs.Key.{in_range, second, relation, right_counts, proper_key}
use Rattle.keys.proofs.Ranges.{sized_three, sized_four}
use Rattle.keys.proofs.Counts.{proper_by_relation, improper_by_counts}
use Rattle.choices.specs.Choices.{choices}
use Rattle.signing.specs.Response.{Lent, secret, drawing, Unnumbered, unnumbered, drawn, all_sized, early, tested, response_for}
use Rattle.signing.specs.declared.Request.{Request}
use Rattle.signing.specs.declared.Measured.{Measured}
use Rattle.signing.specs.declared.Refused.{Refused}
use Rattle.signing.specs.Requests.{lent_by, lent_measured, inputs_sized, Alike, left_with, signed_with}

-- a refusal before the draw
pub refusal_at : (r : Refused) (x : Refusal) (z1 z2 : List ℤ) → (r.refusal ≡ x) × (r.words ≡ 0) → left_with (Err r) z1 z2 ≡ unnumbered (Err x) 0 z1 z2
refusal_at r x z1 z2 h = ap₂ (λ (p : Refusal) (m : ℕ). unnumbered (Err p) m z1 z2) h.0 h.1

-- ---- the lengths
pub all_sized_lem : (c : Lent) → all_sized c ≡ true
    → ((length c.f ≡ dimension) × (length c.g ≡ dimension) × (length c.a ≡ dimension) × (length c.thresholds ≡ places))
    × ((length c.y1 ≡ dimension) × (length c.y2 ≡ dimension) × (length c.z1 ≡ dimension) × (length c.z2 ≡ dimension))
all_sized_lem c e =
    let rest = and_right (sized c.f && (sized c.g && (sized c.a && sized c.y1))) _ e in
    let (lf, lg, la, ly1) = sized_four c.f c.g c.a c.y1 (and_left _ _ e) in
    let (ly2, lz1, lz2) = sized_three c.y2 c.z1 c.z2 (and_left _ _ rest) in
    let lt = eqb-true (length c.thresholds) places (and_right (sized c.y2 && (sized c.z1 && sized c.z2)) _ rest) in
    ((lf, lg, la, lt), (ly1, ly2, lz1, lz2))

pub are_sized : (c : Lent)
    → ((length c.f ≡ dimension) × (length c.g ≡ dimension) × (length c.a ≡ dimension) × (length c.thresholds ≡ places))
    × ((length c.y1 ≡ dimension) × (length c.y2 ≡ dimension) × (length c.z1 ≡ dimension) × (length c.z2 ≡ dimension))
    → all_sized c ≡ true
are_sized c h =
    rw (
      eq-eqb _ _ h.0.0,
      eq-eqb _ _ h.0.1,
      eq-eqb _ _ h.0.2,
      eq-eqb _ _ h.0.3,
      eq-eqb _ _ h.1.0,
      eq-eqb _ _ h.1.1,
      eq-eqb _ _ h.1.2,
      eq-eqb _ _ h.1.3,
    )

-- the inputs are tested before the outputs
module _ (r : Request) (z1 z2 : List ℤ) where
  pub inputs_short : inputs_sized r ≡ false → all_sized (lent_by r z1 z2) ≡ false
  inputs_short = by_tests _ (sized r.y2.now) (sized z1 && sized z2) _
    where
      by_tests : (p q o t : Bool) → p && (q && t) ≡ false → p && ((q && o) && t) ≡ false
      by_tests false q o t e = refl
      by_tests true false o t e = refl
      by_tests true true true false e = refl
      by_tests true true false false e = refl
      by_tests true true o true e = absurd (differ (sym e))

  pub outputs_short : sized z1 && sized z2 ≡ false → all_sized (lent_by r z1 z2) ≡ false
  outputs_short e = by_tests (sized r.f.now && (sized r.g.now && (sized r.a.now && sized r.y1.now))) (sized r.y2.now) _ _ e
    where
      by_tests : (p q o t : Bool) → o ≡ false → p && ((q && o) && t) ≡ false
      by_tests false q o t e = refl
      by_tests true false o t e = refl
      by_tests true true false t e = refl
      by_tests true true true t e = absurd (differ (sym e))

  pub all_long : inputs_sized r ≡ true → sized z1 && sized z2 ≡ true → all_sized (lent_by r z1 z2) ≡ true
  all_long = by_tests (sized r.f.now && (sized r.g.now && (sized r.a.now && sized r.y1.now))) (sized r.y2.now) (sized z1 && sized z2) _
    where
      by_tests : (p q o t : Bool) → p && (q && t) ≡ true → o ≡ true → p && ((q && o) && t) ≡ true
      by_tests false q o t e f = absurd (differ e)
      by_tests true false o t e f = absurd (differ e)
      by_tests true true false t e f = absurd (differ f)
      by_tests true true true false e f = absurd (differ e)
      by_tests true true true true e f = refl

pub refused_length : (s : Set) (c : Lent) → all_sized c ≡ false → early c (Err WrongLength) ≡ response_for s c
unfolding response_for
refused_length s c e = rw e

pub passed_lengths : (s : Set) (r : Request) (m : Measured) (z1 z2 : List ℤ) → Alike r m → length z1 ≡ dimension → length z2 ≡ dimension
    → tested s (lent_measured m z1 z2) ≡ response_for s (lent_by r z1 z2)
unfolding response_for
passed_lengths s r m z1 z2 h l1 l2 =
    let same : lent_measured m z1 z2 ≡ lent_by r z1 z2 = cc in
    ap (tested s) same ∙ sym (ap (λ b. must b (early (lent_by r z1 z2) (Err WrongLength)) (tested s (lent_by r z1 z2))) (all_long r z1 z2 h.sized (rw (l1, l2))))

-- ---- the key

must_unless : (related : Bool) (answer : Outcome → Unnumbered) (next : Unnumbered) → must related (answer (Err RelationBroken)) next ≡ unless (must related (Err RelationBroken) Done) answer next
must_unless true answer next = refl
must_unless false answer next = refl

-- that is all that is left of the tests of the key
pub signed_with_lem : (s : Set) (c : Lent) → in_range c.f c.g c.a ≡ true → right_counts s c.f c.g ≡ true
    → signed_with s c (secret c) ≡ unless (proper_key s c.f c.g c.a) (early c) (drawn s (drawing c) (choices (secret c) c.list))
signed_with_lem s c range counts =
    rw (proper_by_relation s c.f c.g c.a range counts)
    (must_unless (relation c.a c.f (second c.g)) (early c) (drawn s (drawing c) (choices (secret c) c.list)))

pub counts_refused : (s : Set) (c : Lent) (next : Unnumbered) → right_counts s c.f c.g ≡ false
    → early c (Err CountsWrong) ≡ unless (proper_key s c.f c.g c.a) (early c) next
counts_refused s c next counts = rw (improper_by_counts s c.f c.g c.a counts)
