-- What an answer that is done tells of the tests before it. `outcome` is the part of an answer that is its outcome. Assumes nothing.
use mathlib.Core.Path.{◌≡◌, refl, sym, ap, ◌∙◌}
use mathlib.Core.Bool.{Bool, true, false}
use Prim.Native.Nat.{ℕ}
use Rattle.laws.specs.Refusals.{must}
use Rattle.laws.proofs.Chain.{differ}
use Rattle.sets.specs.declared.Set.{Set}
use Rattle.std.specs.Prelude.{Option, Some, None}
use Rattle.answers.specs.Outcomes.{Outcome, Done, is_done, unless, for_set}
use Rattle.answers.proofs.Calls.{done_is}
use Rattle.draw.specs.declared.Ending.{Ending}
use Rattle.draw.specs.declared.Ending.TheVariants.{Accepted, Rejected, OutOfWords}
use Rattle.draw.specs.Draw.{after_walk}

-- of an answer that is an outcome and no more
abbrev pub itself : Outcome → Outcome
itself o = o

module _ {A : Type 0} (outcome : A → Outcome) where
  -- an answer that is done
  abbrev pub Finished : A → Type 0
  Finished x = is_done (outcome x) ≡ true

  -- a refusal is not
  abbrev pub Refusal : A → Type 0
  Refusal x = is_done (outcome x) ≡ false

  -- a test that must hold
  pub must_passed : (test : Bool) (refusal next : A) → Refusal refusal → Finished (must test refusal next)
      → (test ≡ true) × Finished next × (must test refusal next ≡ next)
  must_passed true refusal next n h = (refl, h, refl)
  must_passed false refusal next n h = absurd (differ (sym n ∙ h))

  -- an outcome that would be answered where it refuses
  pub unless_passed : (o : Outcome) (answer : Outcome → A) (next : A) → outcome (answer o) ≡ o → Finished (unless o answer next)
      → (o ≡ Done) × Finished next × (unless o answer next ≡ next)
  unless_passed o answer next same h = pick (is_done o) refl h
    where
      pick : (b : Bool) → is_done o ≡ b → Finished (must b (answer o) next) → (o ≡ Done) × Finished next × (must b (answer o) next ≡ next)
      pick true e h = (done_is o e, h, refl)
      pick false e h = absurd (differ (sym e ∙ ap is_done (sym same) ∙ h))

  -- a set that must be known
  pub set_known : (asked : Option Set) (refusal : A) (next : Set → A) → Refusal refusal → Finished (for_set asked refusal next)
      → (s : Set) × (asked ≡ Some s) × Finished (next s) × (for_set asked refusal next ≡ next s)
  set_known (Some s) refusal next n h = (s, refl, h, refl)
  set_known None refusal next n h = absurd (differ (sym n ∙ h))

  -- a walk that must end in success
  pub walk_accepted : (ending : Ending) (accepted rejected : ℕ → A) (short : A) → ((n : ℕ) → Refusal (rejected n)) → Refusal short
      → Finished (after_walk ending accepted rejected short)
      → (n : ℕ) × Finished (accepted n) × (after_walk ending accepted rejected short ≡ accepted n)
  walk_accepted (Accepted n) accepted rejected short r e h = (n, h, refl)
  walk_accepted (Rejected n) accepted rejected short r e h = absurd (differ (sym (r n) ∙ h))
  walk_accepted OutOfWords accepted rejected short r e h = absurd (differ (sym e ∙ h))
