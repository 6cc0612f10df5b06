use Rattle.ring.specs.Powers.{Powers}
use Rattle.ring.proofs.Field.{onward, onward_powers}
use Rattle.ring.proofs.Layers.{roots_of}
use Rattle.ring.proofs.powers.Goals as goal

pub returns-clause-table : goal.returns-clause-table
unfolding Powers onward
returns-clause-table c = onward_powers 1024

pub returns-clause-roots : goal.returns-clause-roots
unfolding Powers onward
returns-clause-roots c = roots_of _ (onward_powers 1024)
