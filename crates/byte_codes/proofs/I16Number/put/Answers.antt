use Rattle.std.proofs.Common.{◌∙◌}
use Rattle.byte_codes.proofs.Numbers.{complement_written}
use Rattle.byte_codes.proofs.I16Number.put.Goals as goal

pub returns : goal.returns
returns c = c.copy_from_slice.ensures.after ∙ c.to_le_bytes.ensures ∙ complement_written c.ranges.self
