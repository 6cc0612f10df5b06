-- The ways on through a call: the set that was asked for, and an outcome that refuses or does not. Assumes nothing.
use mathlib.Core.Path.{◌≡◌, refl, sym, ap, ◌∙◌}
use mathlib.Core.Bool.{Bool, true, false}
use mathlib.Core.List.{List}
use Prim.Native.Nat.{ℕ}
use borrow.Author.Tests.{eq-eqb}
use Rattle.laws.specs.Refusals.{must}
use Rattle.laws.proofs.Chain as Chain
use Rattle.sets.specs.declared.Set.{Set}
use Rattle.std.specs.Prelude.{Option, Some, None, Ok, Err, IsErrAnd}
use Rattle.answers.specs.declared.Refusal.{Refusal}
use Rattle.answers.specs.declared.Refusal.TheVariants.{UnknownSet, WrongLength, CoefficientOutside, MaskOutside, ImproperList, RelationBroken, KeyTooLong, DrawRejected, WordMissing, EntryBeyond, SumAbove, ListsDiffer, HeaderMalformed, OutputShort, CountsWrong}
use Rattle.answers.specs.Outcomes.{Outcome, Done, number_of, is_done, unless, for_set, filled}

-- no refusal has the number 0
pub refusal_is : (e : Refusal) → is_done (Err e) ≡ false
refusal_is e = elim e as (λ k. is_done (Err k) ≡ false) [
  | UnknownSet ↦ refl
  | WrongLength ↦ refl
  | CoefficientOutside ↦ refl
  | MaskOutside ↦ refl
  | ImproperList ↦ refl
  | RelationBroken ↦ refl
  | KeyTooLong ↦ refl
  | DrawRejected ↦ refl
  | WordMissing ↦ refl
  | EntryBeyond place ↦ refl
  | SumAbove ↦ refl
  | ListsDiffer ↦ refl
  | HeaderMalformed place ↦ refl
  | OutputShort ↦ refl
  | CountsWrong ↦ refl
]

-- the refusal that a `?` hands on
pub handed_on : (r : Outcome) (e : Refusal) → IsErrAnd r (λ y. y ≡ e) → r ≡ Err e
handed_on (Ok done) e h = absurd h
handed_on (Err refusal) e h = ap Err h

module _ {ℓ} {A : Type ℓ} where
  pub refused : (o s : Outcome) (e : Refusal) (answer : Outcome → A) (x next : A) → o ≡ s → o ≡ Err e → x ≡ answer (Err e) → x ≡ unless s answer next
  refused o s e answer x next f g h = rw (← f, g, refusal_is e) h

  pub admitted : (o s : Outcome) (answer : Outcome → A) (x next : A) → o ≡ s → o ≡ Done → x ≡ next → x ≡ unless s answer next
  admitted o s answer x next f g h = rw (← f, g) h

  pub unknown : (r s : Option Set) (x refusal : A) (next : Set → A) → r ≡ s → r ≡ None → x ≡ refusal → x ≡ for_set s refusal next
  unknown r s x refusal next e f h = rw (sym e ∙ f) h

  pub known : (r s : Option Set) (m : Set) (x refusal : A) (next : Set → A) → r ≡ s → r ≡ Some m → x ≡ next m → x ≡ for_set s refusal next
  known r s m x refusal next e f h = rw (sym e ∙ f) h

-- a vector that was written
pub filled_at : (o : Outcome) (x y : List ℕ) → x ≡ y → filled o x ≡ filled o y
filled_at o x y e = ap (filled o) e

-- the only outcome that is done
pub done_is : (o : Outcome) → is_done o ≡ true → o ≡ Done
done_is (Ok done) e = refl
done_is (Err refusal) e = absurd (Chain.differ (sym (refusal_is refusal) ∙ e))

-- the number 0 is that of Done alone
pub zero_is : (o : Outcome) → number_of o ≡ 0 → o ≡ Done
zero_is o e = done_is o (eq-eqb (number_of o) 0 e)

-- a chain that is done passed its first test, and goes on to be done
module _ (refusal next : Outcome) (no-refusal : is_done refusal ≡ false) where
  pub done_test : (s : Bool) → is_done (must s refusal next) ≡ true → s ≡ true
  done_test true e = refl
  done_test false e = sym no-refusal ∙ e

  pub done_next : (s : Bool) → is_done (must s refusal next) ≡ true → is_done next ≡ true
  done_next true e = e
  done_next false e = absurd (Chain.differ (sym no-refusal ∙ e))

pub ruleset calls = (Chain.calls, refused, admitted, unknown, known, filled_at)
