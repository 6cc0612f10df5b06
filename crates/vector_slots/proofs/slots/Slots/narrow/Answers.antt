use Rattle.std.proofs.Common.{rules, map, take, arith, ap, ◌∙◌}
use Rattle.std.specs.Int.{w8, cast_signed}
use Rattle.vector_slots.proofs.Made.{made}
use Rattle.vector_slots.proofs.slots.Slots.narrow.Goals as goal

pub returns : goal.returns
returns c =
    made (cast_signed w8) c.room-bytes.result.now 0 520 c.from_fn.result (λ i y q k. (search rules, search rules)) c.from_fn.ensures.items (omega (arith, c.room-bytes.ensures.length))
    ∙ ap (λ bytes. map (cast_signed w8) (take 520 bytes)) c.room-bytes.ensures.bytes
