-- The whole walk, for its callers: the ways on from how it ended, and the count of words taken. Assumes nothing.
use mathlib.Core.Path.{◌≡◌, sym, ◌∙◌}
use mathlib.Core.List.{List}
use Prim.Native.Nat.{ℕ, zero, suc, ◌+◌, ◌≤◌}
use native.Mathlib.Omega.{arith}
use lib.ListN.{length}
use Rattle.sets.specs.Numbers.{places}
use Rattle.draw.specs.declared.Ending.{Ending}
use Rattle.draw.specs.declared.Ending.TheVariants.{Accepted, Rejected, OutOfWords}
use Rattle.draw.specs.Draw.{after_trial, after_walk, rounds, from_step2, walk_of, taken_of}
use Rattle.draw.proofs.Trials.{ends}
use Rattle.draw.proofs.Rounds.{alike}

-- the walk ended as `ending`, which its contract says is `s`
module _ {ℓ} {A : Type ℓ} (ending s : Ending) (x : A) (accepted rejected : ℕ → A) (short : A) (said : ending ≡ s) where
  pub was_accepted : (taken : ℕ) → ending ≡ Accepted taken → x ≡ accepted taken → x ≡ after_walk s accepted rejected short
  was_accepted taken e k = rw (sym said ∙ e) k

  pub was_rejected : (taken : ℕ) → ending ≡ Rejected taken → x ≡ rejected taken → x ≡ after_walk s accepted rejected short
  was_rejected taken e k = rw (sym said ∙ e) k

  pub was_short : ending ≡ OutOfWords → x ≡ short → x ≡ after_walk s accepted rejected short
  was_short e k = rw (sym said ∙ e) k

-- `search (calls, walks)` closes a return after the walk
pub ruleset walks = (was_accepted, was_rejected, was_short)

module _ (first x : ℕ) (words thresholds : List ℕ) where
  rounds_taken : (n at : ℕ) → at ≤ length words → taken_of words (rounds words thresholds n x at) ≤ length words
  unfolding rounds
  rounds_taken zero at h = omega arith
  rounds_taken (suc n) at h =
      alike words thresholds (λ e _. taken_of words e ≤ length words) (λ _ p. p) x (rounds words thresholds n x) (rounds words thresholds n x) at h
      (λ next _ p. rounds_taken n next p)

  -- a walk takes no more words than are lent
  pub taken_within : taken_of words (walk_of first x words thresholds) ≤ length words
  unfolding walk_of from_step2
  taken_within =
      ends words thresholds places first 0 (λ t. taken_of words (after_trial t (from_step2 words thresholds x) Rejected OutOfWords) ≤ length words) (omega arith)
      (λ next _ p. rounds_taken (length words + 1) next p)
      (λ next _ p. p)
      (omega arith)
