-- The draw (01, "The draw"). The walk reads a lent row of words from the front, and a lent row of thresholds, entry i of which belongs to binary place i.
-- A position is that of the next word, and so the count of the words taken before it.
use Rattle.std.specs.Prelude.{Bool, cond, List, ℕ, zero, suc, ◌+◌, ◌/◌, ◌%◌, ◌^◌, eqb, ltb, length, get_or}
use Rattle.laws.specs.Refusals.{must}
use Rattle.sets.specs.Numbers.{places}
use Rattle.draw.specs.declared.Trial.{Trial}
use Rattle.draw.specs.declared.Trial.TheVariants.{Success, Failure, Short}
use Rattle.draw.specs.declared.Ending.{Ending}
use Rattle.draw.specs.declared.Ending.TheVariants.{Accepted, Rejected, OutOfWords}

-- whether binary place i of x, which is worth 2^i, is set
abbrev pub is_set : ℕ → ℕ → Bool
is_set x i = eqb (x / 2 ^ i % 2) 1

-- what follows a trial, by how it ended: success or failure, with the next position, or a word that was needed and missing
abbrev pub after_trial {ℓ} : {A : Type ℓ} → Trial → (ℕ → A) → (ℕ → A) → A → A
after_trial (Success next) success failure short = success next
after_trial (Failure next) success failure short = failure next
after_trial Short success failure short = short

module _ (words thresholds : List ℕ) where
  -- the binary places n - 1 down to 0 of x, from a position on. Each set place takes one word; the trial stops at the first word that is not below its
  -- threshold, and fails; otherwise it succeeds. A word that is needed and missing ends it whatever the threshold
  unfoldable pub trial_from : ℕ → ℕ → ℕ → Trial
  trial_from zero x at = Success at
  trial_from (suc i) x at =
      cond (is_set x i)
      (must (ltb at (length words)) Short
      (must (ltb (get_or words at 0) (get_or thresholds i 0)) (Failure (at + 1))
      (trial_from i x (at + 1))))
      (trial_from i x at)

  -- a trial of x visits its binary places 30 down to 0
  abbrev pub trial_of : ℕ → ℕ → Trial
  trial_of = trial_from places

  -- Steps 4, 3 and 2, each from a position; `back` is the way back to 2.

  -- 4. Try x. Success: back to 2. Failure: rejected.
  unfoldable pub step4 : ℕ → ℕ → (ℕ → Ending) → Ending
  step4 x at back = after_trial (trial_of x at) back Rejected OutOfWords

  -- 3. Take one word. Odd: back to 2.
  unfoldable pub step3 : ℕ → ℕ → (ℕ → Ending) → Ending
  step3 x at back =
      must (ltb at (length words)) OutOfWords
      (cond (eqb (get_or words at 0 % 2) 1) (back (at + 1)) (step4 x (at + 1) back))

  -- 2. Try x. Success: go on to the length rule.
  unfoldable pub step2 : ℕ → ℕ → (ℕ → Ending) → Ending
  step2 x at back = after_trial (trial_of x at) Accepted (λ next. step3 x next back) OutOfWords

  -- step 2, come to n times at most
  unfoldable pub rounds : ℕ → ℕ → ℕ → Ending
  rounds zero x at = OutOfWords
  rounds (suc n) x at = step2 x at (rounds n x)

  -- step 2, come to as often as the way back leads there. A round that leads back has taken a word, so one round more than there are words is enough:
  -- any larger number gives the same (`enough` in proofs/Rounds.antt), and the way back leads to `from_step2` itself (`circle` there)
  unfoldable pub from_step2 : ℕ → ℕ → Ending
  from_step2 = rounds (length words + 1)

-- 1. Try `first`. Failure: rejected. Then step 2, with x
unfoldable pub walk_of : ℕ → ℕ → List ℕ → List ℕ → Ending
walk_of first x words thresholds = after_trial (trial_of words thresholds first 0) (from_step2 words thresholds x) Rejected OutOfWords

-- what follows the walk, by how it ended, with the count of words taken
abbrev pub after_walk {ℓ} : {A : Type ℓ} → Ending → (ℕ → A) → (ℕ → A) → A → A
after_walk (Accepted taken) accepted rejected short = accepted taken
after_walk (Rejected taken) accepted rejected short = rejected taken
after_walk OutOfWords accepted rejected short = short

-- the count of words taken; where a word was missing, the number of words lent
abbrev pub taken_of : List ℕ → Ending → ℕ
taken_of words ending = after_walk ending (λ taken. taken) (λ taken. taken) (length words)
