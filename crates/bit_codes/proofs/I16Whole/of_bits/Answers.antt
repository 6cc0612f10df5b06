use Rattle.std.proofs.Common.{◌∙◌, ◌≤◌, ◌<◌, ◌-◌, ◌^◌, arith}
use Rattle.std.specs.Int.{w16}
use Rattle.laws.proofs.Machine.{element}
use Rattle.byte_codes.proofs.Complement.{cast_from_complement}
use Rattle.bit_codes.proofs.Fields.{mask_is}
use Rattle.bit_codes.proofs.Signs.{from_complement_wide, from_complement_moved}
use Rattle.bit_codes.proofs.I16Whole.of_bits.Goals as goal

pub returns-then-wide-half : goal.returns-then-wide-half
returns-then-wide-half c =
    let half : c.args.width - 1 ≤ 16 = omega arith in
    let below : c.args.x < 2 ^ (c.args.width - 1) = rw (c.from-wide.ensures, mask_is (c.args.width - 1) half) at c.if-wide-half.true in
    (element w16 c.cast_signed.result c.cast_signed.type_inv).back ∙ c.cast_signed.ensures ∙ cast_from_complement w16 c.args.x
    ∙ from_complement_wide 16 c.args.width c.requires.1 c.requires.0 c.args.x below

pub returns-else-wide-half : goal.returns-else-wide-half
returns-else-wide-half c =
    let half : c.args.width - 1 ≤ 16 = omega arith in
    let above : 2 ^ (c.args.width - 1) ≤ c.args.x = rw (c.from-wide.ensures, mask_is (c.args.width - 1) half) at c.if-wide-half.false in
    (element w16 c.cast_signed-else-wide-half.result c.cast_signed-else-wide-half.type_inv).back ∙ c.cast_signed-else-wide-half.ensures ∙ cast_from_complement w16 _
    ∙ rw (c.from-wide.ensures, mask_is (c.args.width - 1) half)
    (from_complement_moved 16 c.args.width c.requires.1 c.requires.0 c.args.x above c.requires.2)
