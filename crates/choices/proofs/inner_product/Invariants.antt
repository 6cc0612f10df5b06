use Prim.Native.Nat.{◌*◌}
use Rattle.sets.specs.Numbers.{list_limit}
use Rattle.vectors.specs.Pairs.{pair}
use Rattle.choices.proofs.Chunks.{Chunks}
use Rattle.choices.proofs.inner_product.Given as goal

abbrev pub invariant-loop-x1 : goal.invariant-loop-x1
invariant-loop-x1 l =
    let i = l.x1-iterator in
    Chunks (list_limit * 5 * 5) (pair l.v1 l.v2) (pair l.column.first.now l.column.second.now)
    i.a.a.rest.now i.a.b.rest.now i.b.a.rest.now i.b.b.rest.now i.a.a.size i.a.b.size i.b.a.size i.b.b.size l.sums
