-- The paper's number and place for each outcome, and how a call's refusals go on from one to the next.
use Rattle.std.specs.Prelude.{Bool, List, ℕ, eqb, Option, Some, None, Result, Ok, Err}
use Rattle.laws.specs.Refusals.{must}
use Rattle.sets.specs.declared.Set.{Set}
use Rattle.answers.specs.declared.Refusal.{Refusal}
use Rattle.answers.specs.declared.Refusal.TheVariants.{UnknownSet, WrongLength, CoefficientOutside, MaskOutside, ImproperList, RelationBroken, KeyTooLong, DrawRejected, WordMissing, EntryBeyond, SumAbove, ListsDiffer, HeaderMalformed, OutputShort, CountsWrong}

-- what a call comes to: it is done, or refused
abbrev pub Outcome : Type 0
Outcome = Result (Unit {0}) Refusal

abbrev pub Done : Outcome
Done = Ok tt

-- No.
abbrev pub refusal_number_of : Refusal → ℕ
refusal_number_of UnknownSet = 1
refusal_number_of WrongLength = 2
refusal_number_of CoefficientOutside = 3
refusal_number_of MaskOutside = 4
refusal_number_of ImproperList = 5
refusal_number_of RelationBroken = 6
refusal_number_of KeyTooLong = 7
refusal_number_of DrawRejected = 8
refusal_number_of WordMissing = 9
refusal_number_of (EntryBeyond place) = 10
refusal_number_of SumAbove = 11
refusal_number_of ListsDiffer = 12
refusal_number_of (HeaderMalformed place) = 13
refusal_number_of OutputShort = 14
refusal_number_of CountsWrong = 15

abbrev pub number_of : Outcome → ℕ
number_of (Ok done) = 0
number_of (Err refusal) = refusal_number_of refusal

-- places are 0 except with 10 and 13
abbrev pub refusal_place_of : Refusal → ℕ
refusal_place_of UnknownSet = 0
refusal_place_of WrongLength = 0
refusal_place_of CoefficientOutside = 0
refusal_place_of MaskOutside = 0
refusal_place_of ImproperList = 0
refusal_place_of RelationBroken = 0
refusal_place_of KeyTooLong = 0
refusal_place_of DrawRejected = 0
refusal_place_of WordMissing = 0
refusal_place_of (EntryBeyond place) = place
refusal_place_of SumAbove = 0
refusal_place_of ListsDiffer = 0
refusal_place_of (HeaderMalformed place) = place
refusal_place_of OutputShort = 0
refusal_place_of CountsWrong = 0

abbrev pub place_of : Outcome → ℕ
place_of (Ok done) = 0
place_of (Err refusal) = refusal_place_of refusal

abbrev pub is_done : Outcome → Bool
is_done o = eqb (number_of o) 0

-- an outcome that refuses is answered; where it is done, what follows
abbrev pub unless {ℓ} : {A : Type ℓ} → Outcome → (Outcome → A) → A → A
unless o answer next = must (is_done o) (answer o) next

-- the key number that comes back with an outcome: "a refused call answers 0" (02, C-13)
abbrev pub key_with : Outcome → ℕ → ℕ
key_with o key = unless o (λ refusal. 0) key

-- what follows for the set that was asked for, where there is one
abbrev pub for_set {ℓ} : {A : Type ℓ} → Option Set → A → (Set → A) → A
for_set None refusal next = refusal
for_set (Some s) refusal next = next s

-- what a call leaves behind that fills one vector: the outcome, and the vector's contents
pub data Filled : Type 0 where
  filled : Outcome → List ℕ → Filled
