use Rattle.std.proofs.Common.{◌≡◌, ◌∙◌, ℕ, ◌≤◌, ◌<◌, ◌^◌}
use Rattle.std.specs.Int.{w8, w16}
use lib.IntN.{ℤ}
use mir.Val.{SFits}
use Rattle.laws.proofs.Machine.{element, cast_ok, cast_is}
use Rattle.byte_codes.specs.Bytes.{from_complement}
use Rattle.bit_codes.proofs.Signs.{from_complement_mag}
use Rattle.bit_codes.proofs.I8Whole.of_bits.Goals as goal

small : (z : ℤ) (w x : ℕ) → 1 ≤ w → w ≤ 8 → x < 2 ^ w → z ≡ from_complement w x → SFits w8 z
small z w x one few below e = record { sfits = rw e (from_complement_mag 8 w few one x below) }

pub overflow_cast-result : goal.overflow_cast-result
overflow_cast-result c =
    cast_ok (element w16 c.of_bits.result c.of_bits.type_inv) w8 (small _ c.args.width c.args.x c.requires.0 c.requires.1 c.requires.2 c.of_bits.ensures)

pub returns : goal.returns
returns c =
    (cast_is (element w16 c.of_bits.result c.of_bits.type_inv) w8 (small _ c.args.width c.args.x c.requires.0 c.requires.1 c.requires.2 c.of_bits.ensures)).back
    ∙ c.of_bits.ensures
