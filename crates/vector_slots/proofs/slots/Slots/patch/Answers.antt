use Rattle.std.proofs.Math.Seq.{map-set_same}
use Rattle.vector_slots.proofs.slots.Slots.patch.Goals as goal

pub returns-clause-lengths : goal.returns-clause-lengths
returns-clause-lengths c = map-set_same (λ row. row.length) _ _ _ _ c.patch.ensures.length
