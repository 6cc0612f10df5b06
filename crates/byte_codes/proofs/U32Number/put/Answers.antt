use Rattle.std.proofs.Common.{◌∙◌}
use Rattle.std.specs.Int.{w32}
use Rattle.byte_codes.proofs.Numbers.{bytes_written}
use Rattle.byte_codes.proofs.U32Number.put.Goals as goal

pub returns : goal.returns
returns c = c.copy_from_slice.ensures.after ∙ c.to_le_bytes.ensures ∙ bytes_written w32 c.args.self
