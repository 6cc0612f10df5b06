use Rattle.ring.proofs.Layers.{root_at}
use Rattle.ring.proofs.power.Goals as goal

pub returns : goal.returns
returns c = root_at c.powers.result.now c.powers.ensures.roots c.args.exponent c.requires.0 c.requires.1
