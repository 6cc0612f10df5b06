use native.Mathlib.Omega.{arith}
use lib.IntN.{pos}
use Rattle.laws.proofs.Loops.{more}
use Rattle.laws.proofs.Machine.{element}
use Rattle.vectors.proofs.widen.Goals as goal

pub loop-i-preserved : goal.loop-i-preserved
loop-i-preserved c =
    more c.args.out.now c.args.x.now (omega arith) c.loop-i.invariant (pos 0) _ (omega arith) (grind (arith, element))
