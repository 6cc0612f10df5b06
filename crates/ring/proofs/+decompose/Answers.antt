use Prim.Native.Nat.{◌-◌, ◌+◌, ◌/◌}
use native.Mathlib.Omega.{arith}
use lib.ListN.{length}
use Rattle.ring.proofs.Field.{power_le}
use Rattle.ring.proofs.Layers.{aligned_split, halved, within_halves, layer_of, lower_long, upper_long, within_lower, within_upper, remains, remainders_leaf}
use Rattle.ring.proofs.+decompose.Goals as goal

pub power-requires : goal.power-requires
power-requires t c = let taken = aligned_split c.args.k c.args.e c.requires.0 c.requires.4 in (omega arith, omega arith)

pub split-requires : goal.split-requires
split-requires t c =
    let a = c.args in
    let parts = c.split_at_mut-low.ensures in
    let both = within_halves (length a.s.now / 2) a.s.now _ _ parts.front parts.back c.requires.3 in
    (omega (arith, parts.front_len, parts.back_len, halved a.k _ c.requires.0 c.requires.1), omega (arith, c.power.ensures, power_le (a.e / 2)), both.0, both.1)

pub decompose-requires : goal.decompose-requires
decompose-requires t c =
    let a = c.args in
    let parts = c.split_at_mut-low.ensures in
    let layer = layer_of a.k a.e c.power.result a.s.now _ _ _ _ c.requires.0 c.requires.1 parts.front parts.back c.power.ensures c.split.ensures.low c.split.ensures.high in
    (omega arith, (omega arith, lower_long layer, omega (arith, c.requires.2), within_lower layer, (aligned_split a.k a.e c.requires.0 c.requires.4).1))

pub decompose-requires-then-k-gt1 : goal.decompose-requires-then-k-gt1
decompose-requires-then-k-gt1 t c =
    let a = c.args in
    let parts = c.split_at_mut-low.ensures in
    let layer = layer_of a.k a.e c.power.result a.s.now _ _ _ _ c.requires.0 c.requires.1 parts.front parts.back c.power.ensures c.split.ensures.low c.split.ensures.high in
    (omega arith, (omega arith, upper_long layer, omega (arith, c.requires.2), within_upper layer, (aligned_split a.k a.e c.requires.0 c.requires.4).2))

pub returns-then-k-gt1 : goal.returns-then-k-gt1
returns-then-k-gt1 t c =
    let a = c.args in
    let parts = c.split_at_mut-low.ensures in
    let layer = layer_of a.k a.e c.power.result a.s.now _ _ _ _ c.requires.0 c.requires.1 parts.front parts.back c.power.ensures c.split.ensures.low c.split.ensures.high in
    remains layer _ _ c.decompose.ensures c.decompose-then-k-gt1.ensures

-- where its halves are split no more
pub returns-else-k-gt1 : goal.returns-else-k-gt1
returns-else-k-gt1 t c =
    let a = c.args in
    let parts = c.split_at_mut-low.ensures in
    let layer = layer_of a.k a.e c.power.result a.s.now _ _ _ _ c.requires.0 c.requires.1 parts.front parts.back c.power.ensures c.split.ensures.low c.split.ensures.high in
    remains layer _ _ (remainders_leaf (a.k - 1) (a.e / 2) _ (omega arith)) (remainders_leaf (a.k - 1) (a.e / 2 + 512) _ (omega arith))
