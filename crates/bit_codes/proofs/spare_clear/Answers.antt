use Rattle.std.proofs.Common.{ap, ◌∙◌, ℕ, ◌/◌, ◌%◌, ◌^◌, List}
use lib.Dec.{eqb}
use Rattle.std.proofs.lemmas.List.{map-id}
use Rattle.bit_codes.specs.Bits.{number}
use Rattle.bit_codes.proofs.Passes.{spare_test}
use Rattle.bit_codes.proofs.spare_clear.Goals as goal

pub returns : goal.returns
returns c =
    ap (λ (n : ℕ). eqb n 0) (c.bits_at.ensures ∙ ap (λ (l : List ℕ). number 8 l / 2 ^ c.args.bits % 2 ^ 8) (map-id c.args.bytes.now))
    ∙ spare_test c.args.bits c.args.bytes.now (λ k. (c.type_inv.bytes k).fits) c.requires
