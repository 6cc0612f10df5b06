use mathlib.Core.Path.{ap, ◌∙◌}
use native.Mathlib.Omega.{arith}
use Rattle.ring.specs.Transform.{size, aligned, remainders, spectrum_of}
use Rattle.ring.proofs.Zips.{within_of}
use Rattle.ring.proofs.Layers.{in_eighths}
use Rattle.ring.proofs.Spectra.{within_residues}
use Rattle.ring.proofs.transform_key.Goals as goal

pub decompose-requires : goal.decompose-requires
unfolding size aligned
decompose-requires c =
    (omega arith, c.residues.auto.s ∙ c.requires.1, omega arith, within_of c.residues.new.s _ c.residues.ensures (within_residues c.args.a.now), in_eighths)

pub returns : goal.returns
unfolding spectrum_of
returns c = c.decompose.ensures ∙ ap (remainders 6 512) c.residues.ensures
