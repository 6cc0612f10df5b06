use Rattle.std.proofs.Common.{rules, ◌∙◌, ap, [], map, arith}
use Rattle.std.specs.Int.{w64, from_le_bytes}
use Rattle.vector_slots.proofs.Made.{made, chunks}
use Rattle.vector_slots.proofs.slots.Slots.long.Goals as goal

pub returns : goal.returns
returns c =
    made (from_le_bytes w64) c.as_chunks.result.0.now [] 64 c.from_fn.result (λ i y q k. (search rules, search rules)) c.from_fn.ensures.items (omega (arith, c.room.ensures.length, c.as_chunks.ensures.front_len))
    ∙ ap (map (from_le_bytes w64)) (chunks 8 64 _ (omega (arith, c.room.ensures.length)) c.as_chunks.ensures.front c.room.ensures.bytes)
