-- A trial, place by place, and where it ends. Assumes nothing.
use mathlib.Core.Path.{◌≡◌, sym, ap, ◌∙◌, subst}
use mathlib.Core.Bool.{Bool, true, false, cond}
use mathlib.Core.List.{List}
use Prim.Native.Nat.{ℕ, zero, suc, ◌+◌, ◌-◌, ◌<◌, ◌≤◌}
use native.Mathlib.Omega.{arith}
use borrow.Author.Tests.{ltb-true, lt-ltb, le-ltb}
use lib.Dec.{ltb}
use lib.ListN.{length, get_or}
use Rattle.laws.proofs.Chain.{must_cases}
use Rattle.sets.specs.Numbers.{places}
use Rattle.draw.specs.declared.Trial.{Trial}
use Rattle.draw.specs.declared.Trial.TheVariants.{Success, Failure, Short}
use Rattle.draw.specs.Draw.{is_set, after_trial, trial_from, trial_of}

cond_cases : {A : Type 0} (P : A → Type 0) (test : Bool) (x y : A) → P x → P y → P (cond test x y)
cond_cases P true x y p q = p
cond_cases P false x y p q = q

module _ (words thresholds : List ℕ) where
  -- a trial ends within the words that are lent, and one that fails has taken a word
  pub ends : (i x at : ℕ) (P : Trial → Type 0) → at ≤ length words
      → ((next : ℕ) → at ≤ next → next ≤ length words → P (Success next))
      → ((next : ℕ) → at < next → next ≤ length words → P (Failure next))
      → P Short → P (trial_from words thresholds i x at)
  unfolding trial_from
  ends zero x at P h success failure short = success at (omega arith) h
  ends (suc i) x at P h success failure short =
      cond_cases P (is_set x i) _ _
      (must_cases P (ltb at (length words)) _ _
      (λ left. let k : at + 1 ≤ length words = omega (arith, ltb-true at (length words) left) in
      must_cases P (ltb (get_or words at 0) (get_or thresholds i 0)) _ _
      (λ _. ends i x (at + 1) P k (λ next p q. success next (omega arith) q) (λ next p q. failure next (omega arith) q) short)
      (λ _. failure (at + 1) (omega arith) k))
      (λ _. short))
      (ends i x at P h success failure short)

  abbrev Within : ℕ → Trial → Type 0
  Within at trial = after_trial trial (λ next. (at ≤ next) × (next ≤ length words)) (λ next. (at < next) × (next ≤ length words)) Unit

  module _ (x at : ℕ) (h : at ≤ length words) (trial : Trial) (said : trial ≡ trial_of words thresholds x at) (next : ℕ) where
    within : Within at trial
    within = rw said (ends places x at (Within at) h (λ _ p q. (p, q)) (λ _ p q. (p, q)) tt)

    pub success_past : trial ≡ Success next → at ≤ next
    success_past e = (subst (Within at) e within).0

    pub success_within : trial ≡ Success next → next ≤ length words
    success_within e = (subst (Within at) e within).1

    pub failure_past : trial ≡ Failure next → at < next
    failure_past e = (subst (Within at) e within).0

  -- the places below `place` are left to visit
  module _ (whole : Trial) (place x at : ℕ) (so : whole ≡ trial_from words thresholds place x at) where
    pub visited : place ≡ 0 → Success at ≡ whole
    unfolding trial_from
    visited e = sym (so ∙ rw e)

    visit : (place ≡ 0 → ⊥) → whole ≡ trial_from words thresholds (suc (place - 1)) x at
    visit h =
        let e : place ≡ suc (place - 1) = omega arith in
        so ∙ ap (λ (n : ℕ). trial_from words thresholds n x at) e

    module _ (more : place ≡ 0 → ⊥) (set : Bool) (said : set ≡ is_set x (place - 1)) where
      pub clear : set ≡ false → whole ≡ trial_from words thresholds (place - 1) x at
      unfolding trial_from
      clear e = visit more ∙ rw (sym said ∙ e)

      pub missing : set ≡ true → length words ≤ at → Short ≡ whole
      unfolding trial_from
      missing e h = sym (visit more ∙ simp (sym said ∙ e, le-ltb at (length words) h))

      pub above : set ≡ true → at < length words → get_or thresholds (place - 1) 0 ≤ get_or words at 0 → Failure (at + 1) ≡ whole
      unfolding trial_from
      above e h k = sym (visit more ∙ simp (sym said ∙ e, lt-ltb at (length words) h, le-ltb _ _ k))

      pub below : set ≡ true → at < length words → get_or words at 0 < get_or thresholds (place - 1) 0 → whole ≡ trial_from words thresholds (place - 1) x (at + 1)
      unfolding trial_from
      below e h k = visit more ∙ simp (sym said ∙ e, lt-ltb at (length words) h, lt-ltb _ _ k)
