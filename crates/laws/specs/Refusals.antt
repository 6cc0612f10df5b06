-- Refusals in a fixed order: each is given exactly where its condition is the first that holds.
use Rattle.std.specs.Prelude.{Bool, true, false}

-- a test that must hold, what is answered where it does not, and what follows where it does
abbrev pub must {ℓ} : {A : Type ℓ} → Bool → A → A → A
must true refusal next = next
must false refusal next = refusal
