use Rattle.std.proofs.Common.{rules}
use Rattle.vectors.proofs.Rising.{proper_places}
use Rattle.masking.proofs.Chosen.{few_places, chosen_short}
use Rattle.response_points.proofs.choose.Goals as goal

pub choose-requires-clause-list_len_bound : goal.choose-requires-clause-list_len_bound
choose-requires-clause-list_len_bound g c =
    let a = c.args in
    let proper = c.requires.proper in
    (few_places a.s a.list.now proper, proper_places a.s a.list.now proper)

pub show-requires : goal.show-requires
show-requires g c =
    let a = c.args in
    let q = c.requires in
    chosen_short a.s a.s1.now a.s2.now a.list.now (search rules) (search rules) q.proper c.choose.new.v1 c.choose.new.v2 c.choose.ensures q.short
