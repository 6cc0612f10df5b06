use Rattle.std.proofs.Common.{arith, ◌∙◌}
use Rattle.byte_codes.proofs.Packing.{none_written, written_more, all_written}
use Rattle.byte_codes.proofs.pack.Goals as goal

pub loop-i-init : goal.loop-i-init
loop-i-init g c = (omega arith, none_written g.T.Number.code g.T.Number.WIDTH c.args.entries.now c.args.out.now)

pub loop-i-preserved : goal.loop-i-preserved
loop-i-preserved g c =
    let t = g.T.Number in (
      omega arith,
      rw (c.WIDTH.ensures, c.WIDTH-in-loop-i.ensures, c.loop-i.invariant.1)
          (written_more t.code t.WIDTH c.args.entries.now c.args.out.now c.requires c.loop-i.i c.put.new.out _ c.loop-i-test.true c.index-entries-i.is c.put.ensures),
    )

pub returns : goal.returns
returns g c = let t = g.T.Number in c.loop-i.invariant.1 ∙ all_written t.code t.WIDTH c.args.entries.now c.args.out.now c.requires c.loop-i.i (omega arith)
