use Rattle.bit_codes.proofs.Passes.{window_at}
use Rattle.bit_codes.proofs.bits_at.Goals as goal

pub returns : goal.returns
returns g c =
    window_at c.args.v c.args.w c.args.at _ _ _ _ _ c.requires.0 c.requires.3 c.requires.4 c.bits_of.ensures c.digit_at.ensures c.digit_at-2.ensures c.digit_at-3.ensures
