-- A response and its key number: what it is without it, and which one comes back. Assumes nothing.
use mathlib.Core.Path.{◌≡◌, sym, ap, ◌∙◌}
use mathlib.Core.List.{List}
use Prim.Native.Nat.{ℕ}
use borrow.Author.Tests.{eq-eqb, ne_eqb}
use lib.IntN.{ℤ}
use Rattle.answers.specs.Outcomes.{Outcome, number_of, key_with}
use Rattle.signing.specs.Response.{Lent, Unnumbered, unnumbered, responded, numbered, responding, response}

pub key_done : (o : Outcome) (key : ℕ) → number_of o ≡ 0 → key_with o key ≡ key
key_done o key zero = rw (eq-eqb (number_of o) 0 zero)

pub key_refused : (o : Outcome) (key : ℕ) → (number_of o ≡ 0 → ⊥) → key_with o key ≡ 0
key_refused o key refused = rw (ne_eqb (number_of o) 0 refused)

pub unnumbered_of : (set key : ℕ) (c : Lent) (o : Outcome) (count back : ℕ) (z1 z2 : List ℤ) → response set key c ≡ responded o count back z1 z2
    → (responding set c ≡ unnumbered o count z1 z2) × (back ≡ key_with o key)
unfolding response
unnumbered_of set key c o count back z1 z2 e = parts (responding set c) e
  where
    parts : (u : Unnumbered) → numbered key u ≡ responded o count back z1 z2 → (u ≡ unnumbered o count z1 z2) × (back ≡ key_with o key)
    parts (unnumbered p n x y) e =
        let outcome : p ≡ o = cc in
        let number : key_with p key ≡ back = cc in
        (cc, sym number ∙ ap (λ (q : Outcome). key_with q key) outcome)
