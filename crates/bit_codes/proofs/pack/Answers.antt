use Rattle.std.proofs.Common.{◌∙◌, ap, ℕ, ◌*◌, ◌/◌, ◌%◌, ◌^◌, List, length, arith}
use Rattle.std.proofs.lemmas.List.{map-id}
use Rattle.laws.proofs.Loops.{finish}
use Rattle.bit_codes.specs.Bits.{number, bytes_for, recoded}
use Rattle.bit_codes.proofs.Passes.{digits_fill, digit_more}
use Rattle.bit_codes.proofs.pack.Goals as goal

pub loop-k-preserved : goal.loop-k-preserved
unfolding recoded
loop-k-preserved c =
    let w = c.args.width in
    let entries = c.args.entries.now in (
      omega arith,
      digit_more 8 (bytes_for (w * length entries)) (number w entries) c.args.out.now c.requires.4 _ (omega arith)
          (c.bits_at.ensures ∙ ap (λ (l : List ℕ). number w l / 2 ^ (8 * c.loop-k.k) % 2 ^ 8) (map-id entries)) c.loop-k.invariant.1,
    )

pub returns : goal.returns
unfolding recoded
returns c =
    finish _ _ (digits_fill 8 (bytes_for (c.args.width * length c.args.entries.now)) (number c.args.width c.args.entries.now) c.args.out.now c.requires.4) c.loop-k.invariant.1 (omega arith)
