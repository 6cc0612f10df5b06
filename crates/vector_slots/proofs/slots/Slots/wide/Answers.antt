use Rattle.std.proofs.Common.{rules, ◌∙◌, ap, List, [], ℕ, map, arith}
use Rattle.std.specs.Int.{w16, cast_signed, from_le_bytes}
use Rattle.vector_slots.proofs.Made.{made, chunks}
use Rattle.vector_slots.proofs.slots.Slots.wide.Goals as goal

pub returns : goal.returns
returns c =
    made (λ (entry : List ℕ). cast_signed w16 (from_le_bytes w16 entry)) c.as_chunks.result.0.now [] 520 c.from_fn.result (λ i y q k. (search rules, search rules)) c.from_fn.ensures.items (omega (arith, c.room.ensures.length, c.as_chunks.ensures.front_len))
    ∙ ap (map (λ (entry : List ℕ). cast_signed w16 (from_le_bytes w16 entry))) (chunks 2 520 _ (omega (arith, c.room.ensures.length)) c.as_chunks.ensures.front c.room.ensures.bytes)
