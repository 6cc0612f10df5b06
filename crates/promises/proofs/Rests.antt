-- The two commitments, and what a rest tells (02, C-20). Assumes nothing.
use mathlib.Core.Path.{◌≡◌, refl, sym, ap, ◌∙◌}
use mathlib.Core.Bool.{Bool, true, false, ◌&&◌, and-true}
use mathlib.Core.List.{List, map}
use Prim.Native.Nat.{ℕ, ◌*◌, ◌%◌, ◌^◌, ◌<◌}
use native.Mathlib.Omega.{arith}
use lib.IntN.{ℤ, pos, ◌+ℤ◌}
use lib.ListN.{length, get_or, length-map}
use Rattle.laws.specs.Refusals.{must}
use Rattle.laws.proofs.Chain.{through, differ}
use Rattle.laws.proofs.Entries.{get_or-map}
use Rattle.sets.specs.declared.Set.{Set}
use Rattle.std.specs.Prelude.{Option, Some, None, Err}
use Rattle.sets.specs.Numbers.{dimension, d_of, p_of, asked_of}
use Rattle.answers.specs.Outcomes.{Outcome, Done, is_done, unless, for_set, filled}
use Rattle.answers.specs.declared.Refusal.TheVariants.{UnknownSet}
use Rattle.answers.proofs.Calls.{zero_is}
use Rattle.rounding.specs.Rounding.{quotient, upper, rest}
use Rattle.rounding.specs.Laws.{is_rest}
use Rattle.rounding.proofs.Laws.{quotient_nearest, upper_is_nearest, rest_range, rest_completes}
use Rattle.vectors.specs.Vectors.{sized}
use Rattle.commitment.specs.Commitment.{sums, committed, rests_of, tested, commitment_for, commitment, Outputs, with_rests, keeping, with_rests_for, commitment_with_rests}
use Rattle.commitment.proofs.Sums.{length_sums}
use Rattle.commitment.proofs.Tests.{tested_long, sized_five}
use Rattle.promises.specs.Rests.{digits_of, SameDigits, RestsOfSums}
use Rattle.promises.proofs.Agreement.{sized_yes}
use Rattle.promises.proofs.Determined.{with_rests_parts}

-- ---- the same digits
module _ (a : List ℕ) (y1 y2 : List ℤ) (old : Outputs) (long : length old.rests ≡ dimension) where
  -- every vector has its length where all but the rests have theirs
  all_sized_lem : sized a && (sized y1 && (sized y2 && (sized old.digits && sized old.rests))) ≡ sized a && (sized y1 && (sized y2 && sized old.digits))
  all_sized_lem =
      ap (λ (b : Bool). sized a && (sized y1 && (sized y2 && (sized old.digits && b)))) (sized_yes old.rests long)
      ∙ ap (λ (b : Bool). sized a && (sized y1 && (sized y2 && b))) (and-true (sized old.digits))

  either : (test : Bool) (o : Outcome) (d : List ℕ) (r : List ℤ) → digits_of (must test (keeping old o) (with_rests Done d r)) ≡ must test (filled o old.digits) (filled Done d)
  either true o d r = refl
  either false o d r = refl

  same_for : (s : Set) → digits_of (with_rests_for s a y1 y2 old) ≡ commitment_for s a y1 y2 old.digits
  same_for s =
      let both : Outcome = tested (sized a && (sized y1 && (sized y2 && (sized old.digits && sized old.rests)))) a y1 y2 in
      either (is_done both) both (committed s a y1 y2) (rests_of s a y1 y2)
      ∙ ap (λ (b : Bool). unless (tested b a y1 y2) (λ o. filled o old.digits) (filled Done (committed s a y1 y2))) all_sized_lem

  same_asked : (asked : Option Set) → digits_of (for_set asked (keeping old (Err UnknownSet)) (λ s. with_rests_for s a y1 y2 old)) ≡ for_set asked (filled (Err UnknownSet) old.digits) (λ s. commitment_for s a y1 y2 old.digits)
  same_asked (Some s) = same_for s
  same_asked None = refl

pub same_digits : SameDigits
unfolding commitment commitment_with_rests
same_digits set a y1 y2 old long = same_asked a y1 y2 old long (asked_of set)

-- ---- what the two vectors tell
module _ (s : Set) (a : List ℕ) (y1 y2 : List ℤ) (old : Outputs) (digits : List ℕ) (rests : List ℤ) (e : with_rests_for s a y1 y2 old ≡ with_rests Done digits rests) where
  abbrev long : Bool
  long = sized a && (sized y1 && (sized y2 && (sized old.digits && sized old.rests)))

  abbrev test : Outcome
  test = tested long a y1 y2

  abbrev u : List ℕ
  u = sums a y1 y2

  -- the tests let everything pass, and both vectors are those of the definition
  way : (is_done test ≡ true) × (with_rests Done (committed s a y1 y2) (rests_of s a y1 y2) ≡ with_rests Done digits rests)
  way =
      through (is_done test) (keeping old test) (with_rests Done (committed s a y1 y2) (rests_of s a y1 y2)) (with_rests Done digits rests)
      (λ f g. differ (sym f ∙ ap is_done (with_rests_parts (with_rests Done digits rests) g refl).0)) e

  digits_is : digits ≡ map (upper s) u
  unfolding committed
  digits_is = (with_rests_parts (with_rests Done digits rests) refl way.1).1

  rests_is : rests ≡ map (rest s) u
  unfolding rests_of
  rests_is = (with_rests_parts (with_rests Done digits rests) refl way.1).2

  u_512 : length u ≡ dimension
  u_512 = length_sums a y1 y2 (sized_five a y1 y2 old.digits old.rests (tested_long long a y1 y2 way.0)).2

  at : (i : ℕ) → i < dimension → (get_or digits i 0 ≡ upper s (get_or u i 0)) × (get_or rests i (pos 0) ≡ rest s (get_or u i 0))
  at i h = (
    ap (λ (l : List ℕ). get_or l i 0) digits_is ∙ get_or-map (upper s) u i 0 0 (omega (arith, u_512)),
    ap (λ (l : List ℤ). get_or l i (pos 0)) rests_is ∙ get_or-map (rest s) u i 0 (pos 0) (omega (arith, u_512)),
  )

  told : (length digits ≡ dimension) × (length rests ≡ dimension)
      × ((i : ℕ) → i < dimension → (n : ℕ) × (pos (get_or u i 0) ≡ pos (2 ^ d_of s * n) +ℤ get_or rests i (pos 0)) × (get_or digits i 0 ≡ n % p_of s) × is_rest s (get_or rests i (pos 0)))
  told = (
    ap length digits_is ∙ length-map u (upper s) ∙ u_512,
    ap length rests_is ∙ length-map u (rest s) ∙ u_512,
    λ i h.
        let x = get_or u i 0 in
        let both = at i h in (
          quotient s x,
          rw both.1 (rest_completes s x),
          both.0 ∙ upper_is_nearest s x (quotient s x) (quotient_nearest s x),
          rw both.1 (rest_range s x),
        ),
  )

pub rests_of_sums : RestsOfSums
unfolding commitment_with_rests
rests_of_sums set s a y1 y2 old o digits rests known e zero =
    told s a y1 y2 old digits rests
    (ap (λ (k : Option Set). for_set k (keeping old (Err UnknownSet)) (λ s. with_rests_for s a y1 y2 old)) (sym known)
    ∙ e ∙ ap (λ (p : Outcome). with_rests p digits rests) (zero_is o zero))
