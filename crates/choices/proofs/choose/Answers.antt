use mathlib.Core.Path.{◌≡◌, sym, ◌∙◌, ap}
use mathlib.Core.Bool.{true}
use mathlib.Core.List.{List}
use Prim.Native.Nat.{ℕ, ◌+◌, ◌-◌, ◌<◌}
use native.Mathlib.Omega.{arith}
use borrow.Author.Tests.{ltb-true}
use lib.Dec.{lit≤}
use lib.IntN.{ℤ}
use lib.ListN.{length, get_or, take, drop}
use Rattle.laws.specs.Lists.{every}
use Rattle.laws.proofs.Entries.{every_at}
use Rattle.sets.specs.Numbers.{dimension}
use Rattle.polynomials.specs.Product.{shift}
use Rattle.polynomials.proofs.Shift.{length_shift, shift_window}
use Rattle.vectors.specs.Places.{is_place}
use Rattle.vectors.specs.Vectors.{within, mirrored}
use Rattle.vectors.proofs.Ranges.{within_at, within_of, within_wider}
use Rattle.vectors.specs.Pairs.{pair}
use Rattle.std.proofs.lemmas.Grind.{common_steps}
use Rattle.choices.specs.Choices.{zeros}
use Rattle.choices.proofs.Pairs.{Sized, Within}
use Rattle.choices.proofs.Sums.{within_column}
use Rattle.choices.proofs.Walk.{walk_start, walk_more, walk_end, walk_room}
use Rattle.choices.proofs.choose.Goals.{After-mirror-2}
use Rattle.choices.proofs.choose.Goals as goal

-- the part of a doubled vector that starts 512 - i from its start is the column x^i s
part_is : (from i : ℕ) (s double : List ℤ) → from + i ≡ dimension → length s ≡ dimension → double ≡ mirrored s
    → take (from + dimension - from) (drop from double) ≡ shift i s
part_is from i s double h e m =
    let whole : from + dimension - from ≡ dimension = omega arith in
    let front : from ≡ dimension - i = omega arith in
    rw (whole, m, front) (sym (shift_window i s e))

place_small : (list : List ℕ) (k : ℕ) → every is_place list ≡ true → k < length list → get_or list k 0 < dimension
place_small list k h j = ltb-true (get_or list k 0) dimension (every_at is_place list k 0 h j)

small : (s1 s2 : List ℤ) → every (within 5) s1 ≡ true → every (within 5) s2 ≡ true → Within 5 (pair s1 s2)
small s1 s2 h j = record { first = within_at 5 s1 h; second = within_at 5 s2 j }

pub mirror-requires : goal.mirror-requires
mirror-requires c =
    let same : c.unwrap.result.now ≡ c.args.s1.now = grind (arith, common_steps) in
    rw same (within_wider 5 32767 c.args.s1.now (lit≤ tt) c.requires.s1_len.2)

pub mirror-requires-2 : goal.mirror-requires-2
mirror-requires-2 c =
    let same : c.unwrap-2.result.now ≡ c.args.s2.now = grind (arith, common_steps) in
    rw same (within_wider 5 32767 c.args.s2.now (lit≤ tt) c.requires.s1_len.3)

pub loop-place-init : goal.loop-place-init
loop-place-init c =
    let none : pair c.unwrap-v1.result.now c.unwrap-v2.result.now ≡ pair zeros zeros = grind (arith, common_steps) in
    rw none (walk_start (pair c.args.s1.now c.args.s2.now) c.args.list.now)

-- the doubled vectors
module _ (c : After-mirror-2) where
  first_doubled : c.mirror.new.out ≡ mirrored c.args.s1.now
  first_doubled = grind (arith, common_steps)

  second_doubled : c.mirror-2.new.out ≡ mirrored c.args.s2.now
  second_doubled = grind (arith, common_steps)

  sized : Sized (pair c.args.s1.now c.args.s2.now)
  sized = record { first = c.requires.s1_len.0; second = c.requires.s1_len.1 }

pub column_start-start-requires : goal.column_start-start-requires
column_start-start-requires c = place_small c.args.list.now c.loop-place.place-index c.requires.list_len_bound.1 c.loop-place-test.true

pub invariant_of-column : goal.invariant_of-column
invariant_of-column c =
    let s1 = c.args.s1.now in
    let s2 = c.args.s2.now in
    let r = c.requires.s1_len in
    let b = (goal.at.invariant_of-column c).After-mirror-2 in
    let place = get_or c.args.list.now c.loop-place.place-index 0 in
    let start = c.column_start-start in
    let first = part_is start.result place s1 _ start.ensures r.0 (first_doubled b) in
    let second = part_is start.result place s2 _ start.ensures r.1 (second_doubled b) in
    let x = within_column (pair s1 s2) (sized b) 5 (small s1 s2 r.2 r.3) place (place_small c.args.list.now c.loop-place.place-index c.requires.list_len_bound.1 c.loop-place-test.true) in
    record {
      sized = (ap length first ∙ length_shift place s1 ∙ r.0, ap length second ∙ length_shift place s2 ∙ r.1);
      small = (ap (every (within 5)) first ∙ within_of 5 (shift place s1) x.first, ap (every (within 5)) second ∙ within_of 5 (shift place s2) x.second);
    }

pub step-requires : goal.step-requires
step-requires c =
    walk_room (pair c.args.s1.now c.args.s2.now) (small c.args.s1.now c.args.s2.now c.requires.s1_len.2 c.requires.s1_len.3) c.loop-place.invariant (omega arith)

pub loop-place-preserved : goal.loop-place-preserved
loop-place-preserved c =
    let s1 = c.args.s1.now in
    let s2 = c.args.s2.now in
    let list = c.args.list.now in
    let i = c.loop-place.place-index in
    let b = (goal.at.loop-place-preserved c).After-mirror-2 in
    let start = c.column_start-start in
    rw (
      c.step.ensures,
      part_is start.result (get_or list i 0) s1 c.mirror.new.out start.ensures c.requires.s1_len.0 (first_doubled b),
      part_is start.result (get_or list i 0) s2 c.mirror-2.new.out start.ensures c.requires.s1_len.1 (second_doubled b),
    )
    (walk_more (pair s1 s2) list c.loop-place.invariant (sized b) c.loop-place-test.true (place_small list i c.requires.list_len_bound.1 c.loop-place-test.true))

pub returns : goal.returns
returns c = walk_end (pair c.args.s1.now c.args.s2.now) _ c.loop-place.invariant c.loop-place-test.false
