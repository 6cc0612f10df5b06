use Rattle.std.proofs.Common.{arith}
use Rattle.laws.proofs.Loops.{finish}
use Rattle.byte_codes.proofs.Packing.{length_entries_in, read_more}
use Rattle.byte_codes.proofs.unpack.Goals as goal

pub loop-i-preserved : goal.loop-i-preserved
loop-i-preserved g c =
    let t = g.T.Number in
    let read = rw (c.WIDTH.ensures, c.WIDTH-in-loop-i.ensures) at c.read.ensures in (
      omega arith,
      read_more t.from_code t.WIDTH c.args.bytes.now c.args.entries.now c.loop-i.i c.read.result c.loop-i-test.true read c.loop-i.invariant.1,
    )

pub returns : goal.returns
returns g c =
    let t = g.T.Number in
    finish _ _ (length_entries_in t.from_code t.WIDTH c.args.bytes.now c.args.entries.now) c.loop-i.invariant.1 (omega arith)
