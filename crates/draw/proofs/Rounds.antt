-- Steps 2 to 4, round by round: how often step 2 may be repeated never decides the answer. Assumes nothing.
use mathlib.Core.Path.{◌≡◌, refl, ap, ◌∙◌}
use mathlib.Core.Bool.{Bool, true, false, cond}
use mathlib.Core.List.{List}
use Prim.Native.Nat.{ℕ, zero, suc, ◌+◌, ◌<◌, ◌≤◌, ◌%◌}
use native.Mathlib.Nat.{le_refl}
use native.Mathlib.Numerals.{add-one}
use native.Mathlib.Omega.{arith}
use borrow.Author.Tests.{ltb-true}
use lib.Dec.{ltb, eqb}
use lib.ListN.{length, get_or}
use Rattle.laws.specs.Refusals.{must}
use Rattle.sets.specs.Numbers.{places}
use Rattle.draw.specs.declared.Ending.{Ending}
use Rattle.draw.specs.declared.Ending.TheVariants.{Accepted, Rejected, OutOfWords}
use Rattle.draw.specs.Draw.{after_trial, step4, step3, step2, rounds, from_step2, taken_of}
use Rattle.draw.proofs.Trials.{ends}

by_test : (P : Bool → Type 0) (test : Bool) → (test ≡ true → P true) → (test ≡ false → P false) → P test
by_test P true p q = p refl
by_test P false p q = q refl

module _ (words thresholds : List ℕ) where
  -- two rounds that differ in the way back alone: R holds of their endings where it holds of the ways back from every later position,
  -- and of each ending with itself that counts no more words than there are
  module _ (R : Ending → Ending → Type 0) (same : (ending : Ending) → taken_of words ending ≤ length words → R ending ending) (x : ℕ) (f g : ℕ → Ending) where
    abbrev Alike : ((ℕ → Ending) → Ending) → Type 0
    Alike step = R (step f) (step g)

    abbrev From : ℕ → Type 0
    From at = (next : ℕ) → at ≤ next → next ≤ length words → R (f next) (g next)

    out : R OutOfWords OutOfWords
    out = same OutOfWords (le_refl (length words))

    alike4 : (at : ℕ) → at ≤ length words → From at → Alike (step4 words thresholds x at)
    unfolding step4
    alike4 at h from = ends words thresholds places x at (λ t. Alike (λ back. after_trial t back Rejected OutOfWords)) h from (λ next p q. same (Rejected next) q) out

    alike3 : (at : ℕ) → From (at + 1) → Alike (step3 words thresholds x at)
    unfolding step3
    alike3 at from =
        by_test (λ t. Alike (λ back. must t OutOfWords (parted odd back))) (ltb at (length words))
        (λ left. let k : at + 1 ≤ length words = omega (arith, ltb-true at (length words) left) in
        by_test (λ t. Alike (parted t)) odd (λ _. from (at + 1) (omega arith) k) (λ _. alike4 (at + 1) k from))
        (λ _. out)
      where
        odd : Bool
        odd = eqb (get_or words at 0 % 2) 1

        parted : Bool → (ℕ → Ending) → Ending
        parted t back = cond t (back (at + 1)) (step4 words thresholds x (at + 1) back)

    pub alike : (at : ℕ) → at ≤ length words → From (at + 1) → Alike (step2 words thresholds x at)
    unfolding step2
    alike at h from =
        ends words thresholds places x at (λ t. Alike (λ back. after_trial t Accepted (λ next. step3 words thresholds x next back) OutOfWords)) h
        (λ next p q. same (Accepted next) q)
        (λ next p q. alike3 next (λ later r s. from later (omega arith) s))
        out

  -- more rounds than there are words left are enough: any two such numbers of rounds give the same answer
  pub enough : (n m x at : ℕ) → at ≤ length words → length words < n + at → length words < m + at → rounds words thresholds n x at ≡ rounds words thresholds m x at
  unfolding rounds
  enough zero m x at h p q = absurd (omega arith)
  enough (suc n) zero x at h p q = absurd (omega arith)
  enough (suc n) (suc m) x at h p q =
      alike ◌≡◌ (λ _ _. refl) x (rounds words thresholds n x) (rounds words thresholds m x) at h
      (λ next r s. enough n m x next s (omega arith) (omega arith))

  -- "back to 2" is back to the very same step
  pub circle : (x at : ℕ) → at ≤ length words → from_step2 words thresholds x at ≡ step2 words thresholds x at (from_step2 words thresholds x)
  unfolding from_step2 rounds
  circle x at h =
      ap (λ (n : ℕ). rounds words thresholds n x at) (add-one (length words))
      ∙ alike ◌≡◌ (λ _ _. refl) x (rounds words thresholds (length words) x) (from_step2 words thresholds x) at h
      (λ next r s. enough (length words) (length words + 1) x next s (omega arith) (omega arith))
