use Rattle.std.specs.Int.{w8}
use Rattle.byte_codes.proofs.Numbers.{one_read, complement_read}
use Rattle.byte_codes.proofs.I8Number.read.Goals as goal

pub returns : goal.returns
returns c = complement_read w8 _ _ _ c.from_le_bytes.type_inv c.from_le_bytes.ensures (one_read c.args.bytes.now c.requires)
