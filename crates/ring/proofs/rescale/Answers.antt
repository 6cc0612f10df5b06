use mathlib.Core.Path.{refl, ap₂, ◌∙◌}
use native.Mathlib.Omega.{arith}
use lib.ListN.{length-map}
use Rattle.laws.proofs.Loops.{next_is}
use Rattle.polynomials.specs.Field.{mul}
use Rattle.ring.proofs.Maps.{mapped}
use Rattle.ring.proofs.rescale.Goals as goal

pub loop-x-preserved : goal.loop-x-preserved
loop-x-preserved c =
    let s = c.args.s.now in
    let so = c.loop-x.invariant in
    mapped (mul 12097) 0 s s so refl (omega arith) _
    (c.times.ensures ∙ ap₂ mul c.new-inverse.ensures (next_is s _ (length-map s (mul 12097)) so 0 (omega arith)))
