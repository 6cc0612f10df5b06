use mathlib.Core.Path.{◌≡◌}
use Prim.Native.Nat.{◌+◌, ◌≤◌}
use lib.IntN.{nat_abs, ◌+ℤ◌}
use Rattle.std.specs.Iterator.Adapters.{zip_first, zip_second}
use Rattle.std.specs.Slice.Iter.{iter_rest}
use Rattle.vectors.specs.Vectors.{inner, sizes}
use Rattle.vectors.proofs.inner_product.Given as goal

-- what is summed, and what is left of both
abbrev pub invariant-loop-x : goal.invariant-loop-x
invariant-loop-x l =
    (l.sum +ℤ inner (iter_rest (zip_first l.x-iterator)) (iter_rest (zip_second l.x-iterator)) ≡ inner l.a l.b)
    × (nat_abs l.sum + sizes (iter_rest (zip_first l.x-iterator)) (iter_rest (zip_second l.x-iterator)) ≤ sizes l.a l.b)
