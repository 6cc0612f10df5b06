use Rattle.std.proofs.Common.{◌∙◌}
use Rattle.std.specs.Int.{w16}
use Rattle.byte_codes.proofs.Numbers.{bytes_written}
use Rattle.byte_codes.proofs.U16Number.put.Goals as goal

pub returns : goal.returns
returns c = c.copy_from_slice.ensures.after ∙ c.to_le_bytes.ensures ∙ bytes_written w16 c.args.self
