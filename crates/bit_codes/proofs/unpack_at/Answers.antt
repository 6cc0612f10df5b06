use Rattle.std.proofs.Common.{◌≡◌, refl, sym, ap, ◌∙◌, ℕ, ◌+◌, ◌*◌, ◌/◌, ◌%◌, ◌^◌, length, arith, List}
use Rattle.std.proofs.lemmas.List.{map-id}
use native.Mathlib.Nat.{mul-suc}
use native.Mathlib.Numerals.{add-one}
use lib.Pow.{shr-shr}
use Rattle.laws.proofs.Loops.{finish}
use Rattle.bit_codes.specs.Bits.{number}
use Rattle.bit_codes.proofs.Passes.{digits_fill, digit_more}
use Rattle.bit_codes.proofs.unpack_at.Goals as goal

pub loop-entry-preserved : goal.loop-entry-preserved
loop-entry-preserved c =
    let w = c.args.width in
    let k = c.loop-entry.entry-index in
    let x = number 8 c.args.bytes.now in
    let next : w * (k + 1) ≡ w * k + w = ap (λ (n : ℕ). w * n) (add-one k) ∙ mul-suc w k in (
      omega arith,
      omega arith,
      digit_more w (length c.args.entries.now) (x / 2 ^ c.args.at) c.args.entries.now refl _ (omega arith)
          (c.bits_at.ensures ∙ ap (λ (l : List ℕ). number 8 l / 2 ^ c.loop-entry.place % 2 ^ w) (map-id c.args.bytes.now)
          ∙ ap (λ (n : ℕ). x / 2 ^ n % 2 ^ w) c.loop-entry.invariant.1 ∙ ap (λ (n : ℕ). n % 2 ^ w) (sym (shr-shr x c.args.at (w * k)))) c.loop-entry.invariant.2,
    )

pub returns : goal.returns
returns c =
    let all : c.loop-entry.entry-index ≡ length c.args.entries.now = omega arith in (
      c.loop-entry.invariant.1 ∙ ap (λ (n : ℕ). c.args.at + c.args.width * n) all,
      finish _ _ (digits_fill c.args.width (length c.args.entries.now) (number 8 c.args.bytes.now / 2 ^ c.args.at) c.args.entries.now refl) c.loop-entry.invariant.2 (omega arith),
    )
