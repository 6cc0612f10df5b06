-- The ways on through a call of this crate and of those above it: a length that is too short or not the one asked for, and a header. Assumes nothing.
use mathlib.Core.Path.{◌≡◌, sym, ◌∙◌}
use Prim.Native.Nat.{ℕ, ◌<◌, ◌≤◌}
use borrow.Author.Tests.{eq-eqb, ne_eqb, le-leb, lt-leb}
use lib.Dec.{eqb, leb}
use Rattle.laws.specs.Refusals.{must}
use Rattle.sets.specs.declared.Set.{Set}
use Rattle.answers.proofs.Calls as Calls
use Rattle.std.specs.Prelude.{Bool, true, false, Result, Ok, Err}
use Rattle.record_forms.specs.declared.Malformed.{Malformed}
use Rattle.record_forms.specs.Headers.{Header, opened}

module _ {ℓ} {A : Type ℓ} where
  module _ (length asked : ℕ) (x refusal next : A) where
    pub wrong_length : (length ≡ asked → ⊥) → x ≡ refusal → x ≡ must (eqb length asked) refusal next
    wrong_length h k = rw (ne_eqb length asked h) k

    pub right_length : length ≡ asked → x ≡ next → x ≡ must (eqb length asked) refusal next
    right_length h k = rw (eq-eqb length asked h) k

  -- the length asked for was computed
  module _ (length wanted asked : ℕ) (x refusal next : A) (is : wanted ≡ asked) where
    pub other_length : (length ≡ wanted → ⊥) → x ≡ refusal → x ≡ must (eqb length asked) refusal next
    other_length h k = rw (← is, ne_eqb length wanted h) k

    pub that_length : length ≡ wanted → x ≡ next → x ≡ must (eqb length asked) refusal next
    that_length h k = rw (← is, eq-eqb length wanted h) k

    pub too_short : length < wanted → x ≡ refusal → x ≡ must (leb asked length) refusal next
    too_short h k = rw (← is, lt-leb wanted length h) k

    pub long_enough : wanted ≤ length → x ≡ next → x ≡ must (leb asked length) refusal next
    long_enough h k = rw (← is, le-leb wanted length h) k

  module _ (h read : Header) (x : A) (refusal : ℕ → A) (next : Set → A) (is : h ≡ read) where
    pub malformed_header : (m : Malformed) → h ≡ Err m → x ≡ refusal m.place → x ≡ opened read refusal next
    malformed_header m e k = rw (sym is ∙ e) k

    pub states : (s : Set) → h ≡ Ok s → x ≡ next s → x ≡ opened read refusal next
    states s e k = rw (sym is ∙ e) k

-- a test that answers a refusal, handed on by `?`
module _ (x next : Header) (m : Malformed) where
  pub field_stops : (r : Result (Unit {0}) Malformed) (test : Bool) (e : Malformed) → r ≡ must test (Err m) (Ok tt) → r ≡ Err e → x ≡ Err e → x ≡ must test (Err m) next
  field_stops r true e is f k = cc
  field_stops r false e is f k = cc

  pub field_passes : (r : Result (Unit {0}) Malformed) (test : Bool) (u : Unit {0}) → r ≡ must test (Err m) (Ok tt) → r ≡ Ok u → x ≡ next → x ≡ must test (Err m) next
  field_passes r true u is f k = k
  field_passes r false u is f k = cc

pub ruleset calls = (Calls.calls, wrong_length, right_length, other_length, that_length, too_short, long_enough, malformed_header, states, field_stops, field_passes)
