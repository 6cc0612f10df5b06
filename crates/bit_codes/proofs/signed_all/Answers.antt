use Rattle.std.proofs.Common.{ℕ, arith}
use Rattle.byte_codes.specs.Bytes.{from_complement}
use Rattle.bit_codes.proofs.Passes.{map_more}
use Rattle.bit_codes.proofs.signed_all.Goals as goal

pub loop-i-preserved : goal.loop-i-preserved
loop-i-preserved g c = (
  omega arith,
  map_more (λ (x : ℕ). g.T.Whole.of_value (from_complement c.args.width x)) c.args.entries.now c.args.out.now c.requires.3 0 c.of_bits.result c.loop-i-test.true c.of_bits.ensures c.loop-i.invariant.1,
)
