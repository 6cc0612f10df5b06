use Rattle.std.proofs.Common.{◌∙◌}
use Rattle.byte_codes.proofs.Numbers.{two_read}
use Rattle.byte_codes.proofs.U16Number.read.Goals as goal

pub returns : goal.returns
returns c = c.from_le_bytes.ensures ∙ two_read c.args.bytes.now c.requires
