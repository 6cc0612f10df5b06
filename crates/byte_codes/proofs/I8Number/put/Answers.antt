use Rattle.std.proofs.Common.{◌∙◌}
use Rattle.byte_codes.proofs.Numbers.{byte_written}
use Rattle.byte_codes.proofs.I8Number.put.Goals as goal

pub returns : goal.returns
returns c = c.copy_from_slice.ensures.after ∙ c.to_le_bytes.ensures ∙ byte_written c.ranges.self
