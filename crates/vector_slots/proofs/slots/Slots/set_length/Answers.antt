use Rattle.std.proofs.Common.{refl}
use Rattle.std.proofs.Math.Seq.{map-set_same}
use Rattle.std.proofs.lemmas.List.{map-set}
use Rattle.vector_slots.proofs.slots.Slots.set_length.Goals as goal

pub returns-clause-bytes : goal.returns-clause-bytes
returns-clause-bytes c = map-set_same (λ row. row.bytes) _ _ _ _ refl

pub returns-clause-lengths : goal.returns-clause-lengths
returns-clause-lengths c = (c.index.result, map-set (λ row. row.length) _ _ _)
