use mathlib.Core.Path.{sym, ◌∙◌}
use borrow.Author.Tests.{eq-eqb, ne_eqb}
use Rattle.laws.proofs.Chain.{differ}
use Rattle.vectors.specs.Places.{proper_list}
use Rattle.vectors.proofs.is_proper.Goals.{then-list-kappa, else-list-kappa}
use Rattle.vectors.proofs.is_proper.Goals as goal

pub returns-then-is_rising : goal.returns-then-is_rising
unfolding proper_list
returns-then-is_rising c =
    elim c.if-list-kappa.branch [
      | then-list-kappa w ↦ rw (eq-eqb _ _ (w.if-list-kappa.true ∙ c.kappa.ensures), sym w.is_rising.ensures ∙ sym w.value-is ∙ c.if-is_rising.true) c.all_below.ensures
      | else-list-kappa w ↦ absurd (differ (sym (ne_eqb _ _ w.if-list-kappa.false) ∙ sym w.value-is ∙ c.if-is_rising.true))
    ]

pub returns-else-is_rising : goal.returns-else-is_rising
unfolding proper_list
returns-else-is_rising c =
    elim c.if-list-kappa.branch [
      | then-list-kappa w ↦ rw (eq-eqb _ _ (w.if-list-kappa.true ∙ c.kappa.ensures), sym w.is_rising.ensures ∙ sym w.value-is ∙ c.if-is_rising.false) c.if-is_rising.false
      | else-list-kappa w ↦ rw (ne_eqb _ _ (λ h. w.if-list-kappa.false (h ∙ sym c.kappa.ensures))) c.if-is_rising.false
    ]
