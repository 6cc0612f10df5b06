use Rattle.std.specs.Int.{w16}
use Rattle.byte_codes.proofs.Numbers.{two_read, complement_read}
use Rattle.byte_codes.proofs.I16Number.read.Goals as goal

pub returns : goal.returns
returns c = complement_read w16 _ _ _ c.from_le_bytes.type_inv c.from_le_bytes.ensures (two_read c.args.bytes.now c.requires)
