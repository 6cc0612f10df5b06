use Rattle.bit_codes.proofs.Fields.{taken}
use Rattle.bit_codes.proofs.bits_of.Goals as goal

pub returns : goal.returns
returns c = search taken
