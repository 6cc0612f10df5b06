use mathlib.Core.Path.{◌≡◌}
use mathlib.Core.List.{List}
use Prim.Native.Nat.{ℕ}
use Rattle.answers.specs.Outcomes.{Outcome, number_of, place_of}
use Rattle.record_forms.proofs.Ways.{calls}
use Rattle.record_forms.specs.Sections.{fetched, section_of}
use Rattle.record_forms.proofs.sections.section.Goals as goal

told : (p : ℕ × ℕ) (bytes : List ℕ) (number place : ℕ) (o : Outcome) → (number ≡ number_of o) × (place ≡ place_of o)
    → fetched p bytes number place ≡ fetched p bytes (number_of o) (place_of o)
told p bytes number place o e = let f = e.0 in let g = e.1 in cc

pub returns-in-Err : goal.returns-in-Err
unfolding section_of
returns-in-Err c = search (calls, told)

pub returns-in-Ok : goal.returns-in-Ok
unfolding section_of
returns-in-Ok c = search (calls, told)
