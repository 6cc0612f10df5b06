use Rattle.std.proofs.Common.{◌<◌, List, length, take, get_or, ℤ, pos, ap, ◌∙◌, arith}
use borrow.Author.Tests.{ltb-true}
use lib.ListN.{set as update}
use Rattle.laws.proofs.Entries.{every_at}
use Rattle.sets.specs.Numbers.{dimension, modulus}
use Rattle.vectors.specs.Places.{is_place}
use Rattle.checking.proofs.Marks.{length_marks, marks_next}
use Rattle.checking.proofs.mark.Goals.{After-from}
use Rattle.checking.proofs.mark.Goals as goal

place_below : (c : After-from) → c.from.result < dimension
place_below c =
    let listed : get_or c.args.list.now c.loop-place.place-index 0 < dimension = ltb-true _ _ (every_at is_place c.args.list.now c.loop-place.place-index 0 c.requires (omega arith)) in
    omega (arith, c.from.ensures)

pub bounds-marked-from : goal.bounds-marked-from
bounds-marked-from c =
    omega (arith, place_below (goal.at.bounds-marked-from c).After-from, ap length c.loop-place.invariant, length_marks (take c.loop-place.place-index c.args.list.now))

pub loop-place-preserved : goal.loop-place-preserved
loop-place-preserved c =
    let l = c.args.list.now in
    let j = c.loop-place.place-index in
    let place = place_below (goal.at.loop-place-preserved c).After-from in
    let update_by : List ℤ → List ℤ = λ r. update r c.from.result (pos modulus) in
    ap update_by c.loop-place.invariant ∙ rw c.from.ensures (marks_next l j (omega arith) (rw c.from.ensures at place))
