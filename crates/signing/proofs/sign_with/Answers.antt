use native.Mathlib.Omega.{arith}
use Rattle.vectors.proofs.Rising.{proper_places}
use Rattle.masking.proofs.Chosen.{few_places, chosen_short, chosen_within}
use Rattle.signing.proofs.sign_with.Goals as goal

pub choose-requires-clause-list_len_bound : goal.choose-requires-clause-list_len_bound
choose-requires-clause-list_len_bound c =
    let a = c.args in
    (few_places a.s a.lent.list.now c.requires.s1_value.3, proper_places a.s a.lent.list.now c.requires.s1_value.3)

pub draw_for-requires-clause-masks_value : goal.draw_for-requires-clause-masks_value
draw_for-requires-clause-masks_value c =
    let a = c.args in (
      c.requires.s1_value.2,
      chosen_short a.s a.s1.now a.s2.now a.lent.list.now (omega arith) (omega arith) c.requires.s1_value.3 _ _ c.choose.ensures c.requires.s2_bound,
    )

pub draw_for-requires-clause-by_index : goal.draw_for-requires-clause-by_index
draw_for-requires-clause-by_index c =
    let a = c.args in
    let v = c.choose.new in
    let h =
    chosen_within a.s a.s1.now a.s2.now a.lent.list.now (omega arith) (omega arith) c.requires.s1_value.3 v.v1 v.v2 c.choose.ensures
    c.requires.s1_value.0 c.requires.s1_value.1 in
    (λ k. omega (arith, h.first k), λ k. omega (arith, h.second k))
