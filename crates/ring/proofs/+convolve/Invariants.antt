use Rattle.ring.proofs.+convolve.Given as goal

abbrev pub decreases-convolve : goal.decreases-convolve
decreases-convolve l = l.k
