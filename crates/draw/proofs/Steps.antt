-- The ways that the code takes through the four steps, each with its answer. Assumes nothing.
use mathlib.Core.Path.{◌≡◌, sym, ◌∙◌}
use mathlib.Core.List.{List}
use Prim.Native.Nat.{ℕ, ◌+◌, ◌-◌, ◌<◌, ◌≤◌, ◌%◌}
use native.Mathlib.Omega.{arith}
use borrow.Author.Tests.{lt-ltb, le-ltb, eq-eqb, ne_eqb}
use lib.ListN.{length, get_or}
use Rattle.draw.specs.declared.Trial.{Trial}
use Rattle.draw.specs.declared.Trial.TheVariants.{Success, Failure, Short}
use Rattle.draw.specs.declared.Ending.{Ending}
use Rattle.draw.specs.declared.Ending.TheVariants.{Accepted, Rejected, OutOfWords}
use Rattle.draw.specs.Draw.{after_trial, trial_of, step4, step3, step2, from_step2, walk_of}
use Rattle.draw.proofs.Trials.{success_past, success_within, failure_past}
use Rattle.draw.proofs.Rounds.{circle}

module _ (words thresholds : List ℕ) where
  -- step 1
  module _ (first : ℕ) (trial : Trial) (said : trial ≡ trial_of words thresholds first 0) where
    pub first_within : (next : ℕ) → trial ≡ Success next → next ≤ length words
    first_within next e = success_within words thresholds first 0 (omega arith) trial said next e

    module _ (x : ℕ) where
      began : walk_of first x words thresholds ≡ after_trial trial (from_step2 words thresholds x) Rejected OutOfWords
      unfolding walk_of
      began = rw said

      pub first_succeeds : (next : ℕ) (ending : Ending) → trial ≡ Success next → ending ≡ from_step2 words thresholds x next → ending ≡ walk_of first x words thresholds
      first_succeeds next ending e said-on = said-on ∙ sym (began ∙ rw e)

      pub first_fails : (taken : ℕ) → trial ≡ Failure taken → Rejected taken ≡ walk_of first x words thresholds
      first_fails taken e = sym (began ∙ rw e)

      pub first_short : trial ≡ Short → OutOfWords ≡ walk_of first x words thresholds
      first_short e = sym (began ∙ rw e)

  -- steps 2 to 4, from `at`, where the answer is to be `whole`
  module _ (whole : Ending) (x at : ℕ) (so : whole ≡ from_step2 words thresholds x at) (h : at ≤ length words) (trial : Trial) (said : trial ≡ trial_of words thresholds x at) where
    tried : whole ≡ after_trial trial Accepted (λ next. step3 words thresholds x next (from_step2 words thresholds x)) OutOfWords
    unfolding step2
    tried = rw said (so ∙ circle words thresholds x at h)

    pub accepts : (taken : ℕ) → trial ≡ Success taken → Accepted taken ≡ whole
    accepts taken e = sym (tried ∙ rw e)

    pub runs_out : trial ≡ Short → OutOfWords ≡ whole
    runs_out e = sym (tried ∙ rw e)

    -- step 3, at `next`
    module _ (next : ℕ) (failed : trial ≡ Failure next) where
      third : whole ≡ step3 words thresholds x next (from_step2 words thresholds x)
      third = tried ∙ rw failed

      pub no_word : length words ≤ next → OutOfWords ≡ whole
      unfolding step3
      no_word k = sym (third ∙ rw (le-ltb next (length words) k))

      module _ (left : next < length words) where
        pub odd : get_or words next 0 % 2 ≡ 1 → whole ≡ from_step2 words thresholds x (next + 1)
        unfolding step3
        odd e = third ∙ simp (lt-ltb next (length words) left, eq-eqb _ _ e)

        -- step 4, after the word at `next`
        module _ (even : get_or words next 0 % 2 ≡ 1 → ⊥) (retrial : Trial) (said-again : retrial ≡ trial_of words thresholds x (next + 1)) where
          retried : whole ≡ after_trial retrial (from_step2 words thresholds x) Rejected OutOfWords
          unfolding step3 step4
          retried = rw said-again (third ∙ simp (lt-ltb next (length words) left, ne_eqb _ _ even))

          pub rejects : (taken : ℕ) → retrial ≡ Failure taken → Rejected taken ≡ whole
          rejects taken e = sym (retried ∙ rw e)

          pub runs_out_again : retrial ≡ Short → OutOfWords ≡ whole
          runs_out_again e = sym (retried ∙ rw e)

          module _ (back : ℕ) (succeeded : retrial ≡ Success back) where
            pub resumes : whole ≡ from_step2 words thresholds x back
            resumes = retried ∙ rw succeeded

            pub resumes_within : back ≤ length words
            resumes_within = success_within words thresholds x (next + 1) (omega arith) retrial said-again back succeeded

            pub resumes_less : length words - back < length words - at
            resumes_less =
                let p : at < next = failure_past words thresholds x at h trial said next failed in
                let q : next + 1 ≤ back = success_past words thresholds x (next + 1) (omega arith) retrial said-again back succeeded in
                omega arith
