use Rattle.ring.proofs.+decompose.Given as goal

abbrev pub decreases-decompose : goal.decreases-decompose
decreases-decompose l = l.k
