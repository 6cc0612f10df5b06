use mathlib.Core.Path.{◌≡◌, ◌∙◌, ap, ap₂}
use mathlib.Core.Bool.{true}
use mathlib.Core.List.{List}
use Prim.Native.Nat.{ℕ, ◌+◌, ◌*◌, ◌<◌}
use native.Mathlib.Omega.{arith}
use lib.IntN.{ℤ, pos, nat_abs}
use lib.ListN.{get_or}
use lib.Signed.{lt_z}
use mir.Syntax.{w32}
use Rattle.laws.specs.Lists.{every, zip_with}
use Rattle.laws.proofs.Machine.{element}
use Rattle.sets.specs.Numbers.{list_limit}
use Rattle.vectors.specs.Vectors.{within}
use Rattle.vectors.proofs.Ranges.{within_at}
use Rattle.vectors.specs.Pairs.{pair}
use Rattle.choices.specs.Choices.{added_if, chosen}
use Rattle.choices.proofs.step.Goals as goal

-- v and a column more fit
room : (v c : List ℤ) → every (within (list_limit * 5)) v ≡ true → every (within 5) c ≡ true → (k : ℕ) → nat_abs (get_or v k (pos 0)) + nat_abs (get_or c k (pos 0)) < 32768
room v c h j k = omega (arith, within_at (list_limit * 5) v h k, within_at 5 c j k)

pub join-requires : goal.join-requires
join-requires c = (c.args.column.sized.0, room c.args.v1.now c.args.column.first.now c.requires.0 c.args.column.small.0)

pub join-requires-2 : goal.join-requires-2
join-requires-2 c = (c.args.column.sized.1, room c.args.v2.now c.args.column.second.now c.requires.1 c.args.column.small.1)

pub returns : goal.returns
unfolding chosen
returns c =
    ap₂ pair c.join.ensures c.join-2.ensures
    ∙ ap (λ (z : ℤ). pair (zip_with (added_if (lt_z z (pos 0))) c.args.v1.now c.args.column.first.now) (zip_with (added_if (lt_z z (pos 0))) c.args.v2.now c.args.column.second.now))
    ((element w32 _ c.inner_product-inner.type_inv).back ∙ c.inner_product-inner.ensures)
