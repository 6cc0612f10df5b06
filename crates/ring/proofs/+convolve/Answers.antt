use mathlib.Core.Path.{◌≡◌, sym, ◌∙◌}
use mathlib.Core.List.{◌++◌}
use Prim.Native.Nat.{◌-◌, ◌+◌, ◌/◌}
use native.Mathlib.Omega.{arith}
use lib.ListN.{length}
use Rattle.ring.proofs.Field.{power_le}
use Rattle.ring.specs.Transform.{Within, convolution}
use Rattle.ring.proofs.Products.{within_product}
use Rattle.ring.proofs.Spectra.{within_convolution}
use Rattle.ring.proofs.Zips.{within_of}
use Rattle.ring.proofs.Layers.{aligned_split, halved, last_size, within_halves, layer_of, lower_long, upper_long, within_lower, within_upper, convolves, blocks}
use Rattle.ring.proofs.+convolve.Goals.{then-k-gt1, else-k-gt1}
use Rattle.ring.proofs.+convolve.Goals as goal

pub power-requires : goal.power-requires
power-requires t c = let taken = aligned_split c.args.k c.args.e c.requires.0 c.requires.6 in (omega arith, omega arith)

pub split-requires : goal.split-requires
split-requires t c =
    let a = c.args in
    let parts = c.split_at_mut-low.ensures in
    let both = within_halves (length a.s.now / 2) a.s.now _ _ parts.front parts.back c.requires.4 in
    (omega (arith, parts.front_len, parts.back_len, halved a.k _ c.requires.0 c.requires.1), omega (arith, c.power.ensures, power_le (a.e / 2)), both.0, both.1)

pub convolve-requires : goal.convolve-requires
convolve-requires t c =
    let a = c.args in
    let parts = c.split_at_mut-low.ensures in
    let keys = c.split_at.ensures in
    let layer = layer_of a.k a.e c.power.result a.s.now _ _ _ _ c.requires.0 c.requires.1 parts.front parts.back c.power.ensures c.split.ensures.low c.split.ensures.high in
    let both = within_halves (length a.s.now / 2) a.f.now _ _ keys.front keys.back c.requires.5 in
    (omega arith, (omega arith, lower_long layer, omega (arith, keys.front_len, halved a.k _ c.requires.0 c.requires.1), omega (arith, c.requires.3), within_lower layer, both.0, (aligned_split a.k a.e c.requires.0 c.requires.6).1))

pub convolve-requires-then-k-gt1 : goal.convolve-requires-then-k-gt1
convolve-requires-then-k-gt1 t c =
    let a = c.args in
    let parts = c.split_at_mut-low.ensures in
    let keys = c.split_at.ensures in
    let layer = layer_of a.k a.e c.power.result a.s.now _ _ _ _ c.requires.0 c.requires.1 parts.front parts.back c.power.ensures c.split.ensures.low c.split.ensures.high in
    let both = within_halves (length a.s.now / 2) a.f.now _ _ keys.front keys.back c.requires.5 in
    (omega arith, (omega arith, upper_long layer, omega (arith, keys.back_len, halved a.k _ c.requires.0 c.requires.1, c.requires.2), omega (arith, c.requires.3), within_upper layer, both.1, (aligned_split a.k a.e c.requires.0 c.requires.6).2))

-- where its halves are blocks
pub power-requires-else-k-gt1 : goal.power-requires-else-k-gt1
power-requires-else-k-gt1 t c = let taken = aligned_split c.args.k c.args.e c.requires.0 c.requires.6 in (omega arith, omega arith)

pub block-requires : goal.block-requires
block-requires t c =
    let a = c.args in
    let parts = c.split_at_mut-low.ensures in
    let keys = c.split_at.ensures in
    let layer = layer_of a.k a.e c.power.result a.s.now _ _ _ _ c.requires.0 c.requires.1 parts.front parts.back c.power.ensures c.split.ensures.low c.split.ensures.high in
    let both = within_halves (length a.s.now / 2) a.f.now _ _ keys.front keys.back c.requires.5 in
    let last = last_size a.k _ c.requires.0 c.if-k-gt1.false c.requires.1 in
    (lower_long layer ∙ sym last.0, omega (arith, keys.front_len, last.1), omega (arith, c.power-else-k-gt1.ensures, power_le (a.e / 2)), within_lower layer, both.0)

pub power-requires-else-k-gt1-2 : goal.power-requires-else-k-gt1-2
power-requires-else-k-gt1-2 t c = let taken = aligned_split c.args.k c.args.e c.requires.0 c.requires.6 in (omega arith, omega arith)

pub block-requires-else-k-gt1 : goal.block-requires-else-k-gt1
block-requires-else-k-gt1 t c =
    let a = c.args in
    let parts = c.split_at_mut-low.ensures in
    let keys = c.split_at.ensures in
    let layer = layer_of a.k a.e c.power.result a.s.now _ _ _ _ c.requires.0 c.requires.1 parts.front parts.back c.power.ensures c.split.ensures.low c.split.ensures.high in
    let both = within_halves (length a.s.now / 2) a.f.now _ _ keys.front keys.back c.requires.5 in
    let last = last_size a.k _ c.requires.0 c.if-k-gt1.false c.requires.1 in
    (upper_long layer ∙ sym last.0, omega (arith, keys.back_len, last.1, last_size a.k _ c.requires.0 c.if-k-gt1.false c.requires.2), omega (arith, c.power-else-k-gt1-2.ensures, power_le (a.e / 2 + 512)), within_upper layer, both.1)

pub power-requires-2 : goal.power-requires-2
power-requires-2 t c = let taken = aligned_split c.args.k c.args.e c.requires.0 c.requires.6 in (omega arith, omega arith)

pub join-requires : goal.join-requires
join-requires t c =
    let a = c.args in
    let parts = c.split_at_mut-low.ensures in
    let layer = layer_of a.k a.e c.power.result a.s.now _ _ _ _ c.requires.0 c.requires.1 parts.front parts.back c.power.ensures c.split.ensures.low c.split.ensures.high in
    let within : (Within 12288 c.if-k-gt1.low) × (Within 12288 c.if-k-gt1.high) =
    elim c.if-k-gt1.branch [
      | then-k-gt1 w ↦ (within_of _ _ (w.low-is ∙ w.convolve.ensures) (within_convolution _ _ _ _), within_of _ _ (w.high-is ∙ w.convolve-then-k-gt1.ensures) (within_convolution _ _ _ _))
      | else-k-gt1 w ↦ (within_of _ _ (w.low-is ∙ w.block.ensures) (within_product _ _ _), within_of _ _ (w.high-is ∙ w.block-else-k-gt1.ensures) (within_product _ _ _))
    ] in
    (c.if-k-gt1.auto.low ∙ lower_long layer ∙ sym (c.if-k-gt1.auto.high ∙ upper_long layer), omega (arith, c.power-2.ensures, power_le (512 - a.e / 2)), within.0, within.1)

pub returns : goal.returns
returns t c =
    let a = c.args in
    let parts = c.split_at_mut-low.ensures in
    let keys = c.split_at.ensures in
    let layer = layer_of a.k a.e c.power.result a.s.now _ _ _ _ c.requires.0 c.requires.1 parts.front parts.back c.power.ensures c.split.ensures.low c.split.ensures.high in
    let joined : c.if-k-gt1.low ≡ convolution (a.k - 1) (a.e / 2) c.split_at.result.0.now c.split.new.low
    → c.if-k-gt1.high ≡ convolution (a.k - 1) (a.e / 2 + 512) c.split_at.result.1.now c.split.new.high
    → c.join.new.low ++ c.join.new.high ≡ convolution a.k a.e a.f.now a.s.now =
    λ em en. convolves layer a.f.now _ _ _ _ _ _ _ keys.front keys.back c.power-2.ensures em en c.join.ensures.low c.join.ensures.high in
    elim c.if-k-gt1.branch [
      | then-k-gt1 w ↦ joined (w.low-is ∙ w.convolve.ensures) (w.high-is ∙ w.convolve-then-k-gt1.ensures)
      | else-k-gt1 w ↦
          joined
          (w.low-is ∙ w.block.ensures ∙ blocks (a.k - 1) (a.e / 2) _ _ _ (omega arith) w.power-else-k-gt1.ensures)
          (w.high-is ∙ w.block-else-k-gt1.ensures ∙ blocks (a.k - 1) (a.e / 2 + 512) _ _ _ (omega arith) w.power-else-k-gt1-2.ensures)
    ]
