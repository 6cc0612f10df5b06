use mathlib.Core.Path.{◌≡◌, ◌∙◌}
use mathlib.Core.Bool.{false, ◌&&◌}
use mathlib.Core.Logic.{◌⊎◌, inl, inr}
use Prim.Native.Nat.{ℕ}
use native.Mathlib.Omega.{arith}
use borrow.Author.Tests.{ne_eqb}
use lib.Dec.{eqb}
use Rattle.answers.specs.declared.Refusal.TheVariants.{WrongLength}
use Rattle.sets.specs.Numbers.{dimension}
use Rattle.signing.specs.Requests.{lent_by}
use Rattle.signing.proofs.Ways.{refusal_at, inputs_short, outputs_short, refused_length, passed_lengths}
use Rattle.signing.proofs.respond_for.Goals as goal

one_short : (m n : ℕ) → (m ≡ dimension → ⊥) ⊎ ((m ≡ dimension) × (n ≡ dimension → ⊥)) → eqb m dimension && eqb n dimension ≡ false
one_short m n (inl h) = rw (ne_eqb m dimension h)
one_short m n (inr h) = rw (h.0, ne_eqb n dimension h.1)

pub returns-in_default : goal.returns-in_default
returns-in_default c =
    let a = c.args in
    refusal_at c.into.result WrongLength a.z1.now a.z2.now c.into.ensures
    ∙ refused_length a.s (lent_by a.request a.z1.now a.z2.now) (inputs_short a.request a.z1.now a.z2.now c.in_default.ensures)

pub returns-then-z1-ne-DIMENSION : goal.returns-then-z1-ne-DIMENSION
returns-then-z1-ne-DIMENSION c =
    let a = c.args in
    let r = c.into-then-z1-ne-DIMENSION in
    refusal_at r.result WrongLength a.z1.now a.z2.now r.ensures
    ∙ refused_length a.s (lent_by a.request a.z1.now a.z2.now) (outputs_short a.request a.z1.now a.z2.now (one_short _ _ c.then-z1-ne-DIMENSION.either))

pub returns : goal.returns
returns c =
    let a = c.args in
    c.test.ensures ∙ passed_lengths a.s a.request c.in-Some.lent a.z1.now a.z2.now c.in-Some.ensures (omega arith) (omega arith)
