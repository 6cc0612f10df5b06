use mathlib.Core.Path.{◌≡◌}
use native.Mathlib.Omega.{arith}
use lib.IntN.{◌+ℤ◌}
use lib.ListN.{length}
use mir.Syntax.{w16}
use Rattle.laws.proofs.Bounds.{abs_add}
use Rattle.vectors.proofs.Combine.{combine_more, combine_finish}
use Rattle.vectors.proofs.add_to.Goals as goal

pub loop-i-preserved : goal.loop-i-preserved
loop-i-preserved c =
    let same : length c.args.v.now ≡ length c.args.c.now = omega arith in
    combine_more ◌+ℤ◌ c.args.v.now c.args.c.now same c.loop-i.invariant w16 abs_add (omega arith) (c.requires.1 c.loop-i.i)

pub returns : goal.returns
returns c =
    let same : length c.args.v.now ≡ length c.args.c.now = omega arith in
    combine_finish ◌+ℤ◌ c.args.v.now c.args.c.now same c.loop-i.invariant (omega arith)
