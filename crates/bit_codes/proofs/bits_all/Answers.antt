use Rattle.std.proofs.Common.{ap, ◌∙◌, arith}
use Rattle.byte_codes.specs.Bytes.{complement}
use Rattle.bit_codes.proofs.Passes.{map_more}
use Rattle.bit_codes.proofs.bits_all.Goals as goal

pub loop-i-preserved : goal.loop-i-preserved
loop-i-preserved g c =
    let code = λ (z : g.row.T.Denot). complement c.args.width (g.T.Whole.value z) in (
      omega arith,
      map_more code c.args.entries.now c.args.out.now c.requires.2 c.index-entries-i.result c.bits.result c.loop-i-test.true (c.bits.ensures ∙ ap code c.index-entries-i.is) c.loop-i.invariant.1,
    )
