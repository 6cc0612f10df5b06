use mathlib.Core.Path.{ap, ◌∙◌}
use native.Mathlib.Omega.{arith}
use Rattle.ring.proofs.Maps.{mapped}
use Rattle.ring.proofs.residues.Goals as goal

pub loop-i-preserved : goal.loop-i-preserved
loop-i-preserved g c =
    let f = g.T.Coefficient.modulo in
    mapped f c.index-a-i.result c.args.a.now c.args.s.now c.loop-i.invariant (omega arith) (omega arith) _ (c.residue.ensures ∙ ap f c.index-a-i.is)
