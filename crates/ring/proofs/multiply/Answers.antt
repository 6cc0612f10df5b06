use mathlib.Core.Path.{ap, ap₂, ◌∙◌}
use mathlib.Core.List.{map}
use native.Mathlib.Omega.{arith}
use lib.ListN.{length}
use Rattle.polynomials.specs.Field.{mul}
use Rattle.ring.specs.Transform.{size, aligned, convolution}
use Rattle.ring.proofs.Zips.{within_of}
use Rattle.ring.proofs.Layers.{in_eighths}
use Rattle.ring.proofs.Spectra.{length_spectrum, within_spectrum, within_signed_residues, product_is}
use Rattle.ring.proofs.multiply.Goals as goal

pub convolve-requires : goal.convolve-requires
unfolding size aligned
convolve-requires c =
    let a = c.args in (
      omega arith,
      c.residues.auto.s ∙ c.requires.2,
      ap length c.requires.3 ∙ length_spectrum a.a.now c.requires.0,
      omega arith,
      within_of c.residues.new.s _ c.residues.ensures (within_signed_residues a.z.now),
      within_of a.spectrum.now _ c.requires.3 (within_spectrum a.a.now),
      in_eighths,
    )

pub returns : goal.returns
returns c =
    let a = c.args in
    c.rescale.ensures
    ∙ ap (map (mul 12097)) (c.convolve.ensures ∙ ap₂ (convolution 6 512) c.requires.3 c.residues.ensures)
    ∙ product_is a.a.now a.z.now c.requires.0 c.requires.1
