use Rattle.std.proofs.Common.{◌∙◌}
use Rattle.byte_codes.proofs.Numbers.{from_four}
use Rattle.byte_codes.proofs.U32Number.read.Goals as goal

pub returns : goal.returns
returns c = c.from_le_bytes.ensures ∙ from_four c.args.bytes.now c.requires
