use Rattle.std.proofs.Common.{ap, ap₂, ◌∙◌, ℕ, ◌%◌}
use Rattle.std.specs.Int.{w16}
use Rattle.laws.proofs.Machine.{given}
use Rattle.byte_codes.specs.Bytes.{complement}
use Rattle.byte_codes.proofs.Complement.{cast_complement}
use Rattle.bit_codes.proofs.Fields.{mask_is}
use Rattle.bit_codes.proofs.Signs.{complement_low}
use Rattle.bit_codes.proofs.I16Whole.bits.Goals as goal

pub returns : goal.returns
returns c =
    ap₂ (λ (m n : ℕ). m % n) (c.from.ensures ∙ c.cast_unsigned.ensures ∙ cast_complement w16 _ ∙ ap (complement 16) (given c.ranges.self).back) (mask_is c.args.width c.requires.0)
    ∙ complement_low 16 c.args.width c.requires.0 c.args.self c.requires.1
