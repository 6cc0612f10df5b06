use mathlib.Core.Path.{◌≡◌, sym, ap, ◌∙◌}
use mathlib.Core.List.{List}
use Prim.Native.Nat.{ℕ, ◌+◌, ◌*◌, ◌<◌}
use native.Mathlib.Omega.{arith}
use borrow.Author.Rules.{rules}
use lib.IntN.{ℤ, pos, nat_abs, ◌+ℤ◌, ◌*ℤ◌}
use lib.ListN.{length, get_or, set as update}
use mir.Syntax.{w16}
use mir.Val.{SFits, to_z, of_z}
use Rattle.laws.proofs.Bounds.{abs_mul}
use Rattle.laws.proofs.Loops.{Rewritten, next_is, more, finish}
use Rattle.laws.proofs.Machine.{Reads, fits, given, mul_is, add_ok, add_is}
use Rattle.choices.proofs.Quarters.{more_products, length_more, more_at}
use Rattle.choices.proofs.gather.Goals as goal

-- the sum at i and its next product, as the machine reads them
module _ (old a b : List ℤ) (ls : length old ≡ 128) (la : length a ≡ 128) (lb : length b ≡ 128)
    (bounded : (k : ℕ) → k < 128 → nat_abs (get_or old k (pos 0)) + nat_abs (get_or a k (pos 0)) * nat_abs (get_or b k (pos 0)) < 32768)
    (i : ℕ) (now : List ℤ) (so : Rewritten old (more_products old a b) i now) (h : i < 128)
    (fits_x : SFits w16 (get_or a i (pos 0))) (fits_y : SFits w16 (get_or b i (pos 0))) where
  abbrev sum : ℤ
  sum = get_or old i (pos 0)

  abbrev x : ℤ
  x = get_or a i (pos 0)

  abbrev y : ℤ
  y = get_or b i (pos 0)

  room : nat_abs sum + nat_abs x * nat_abs y < 32768
  room = bounded i h

  same : length (more_products old a b) ≡ length old
  same = length_more old a b ls la lb

  sum_is : Reads w16 (of_z w16 (get_or now i (pos 0))) sum
  sum_is =
      let is : get_or now i (pos 0) ≡ sum = next_is old (more_products old a b) same so (pos 0) (omega arith) in
      record { back = ap (λ (z : ℤ). to_z w16 (of_z w16 z)) is ∙ (given (fits {w = w16} {z = sum} (omega (arith, room)))).back }

  product_is : Reads w16 (of_z w16 (to_z w16 (of_z w16 x) *ℤ to_z w16 (of_z w16 y))) (x *ℤ y)
  product_is = mul_is (given fits_x) (given fits_y) (omega (arith, room))

  next_ok : SFits w16 (to_z w16 (of_z w16 (get_or now i (pos 0))) +ℤ to_z w16 (of_z w16 (to_z w16 (of_z w16 x) *ℤ to_z w16 (of_z w16 y))))
  next_ok = add_ok sum_is product_is (omega (arith, room, abs_mul x y))

  next_more : Rewritten old (more_products old a b) (i + 1)
      (update now i (to_z w16 (of_z w16 (to_z w16 (of_z w16 (get_or now i (pos 0))) +ℤ to_z w16 (of_z w16 (to_z w16 (of_z w16 x) *ℤ to_z w16 (of_z w16 y)))))))
  next_more =
      more old (more_products old a b) same so (pos 0) _ (omega arith)
      ((add_is sum_is product_is (omega (arith, room, abs_mul x y))).back ∙ sym (more_at old a b ls la lb i h))

pub overflow_add-sum : goal.overflow_add-sum
overflow_add-sum c =
    let r = c.requires.a_len in
    let long : length c.args.sums.now ≡ 128 = omega arith in
    next_ok c.args.sums.now c.args.a.now c.args.b.now long r.0 r.1 c.requires.by_index c.loop-i.i c.loop-i.sums c.loop-i.invariant (omega arith) (search rules) (search rules)

pub loop-i-preserved : goal.loop-i-preserved
loop-i-preserved c =
    let r = c.requires.a_len in
    let long : length c.args.sums.now ≡ 128 = omega arith in
    next_more c.args.sums.now c.args.a.now c.args.b.now long r.0 r.1 c.requires.by_index c.loop-i.i c.loop-i.sums c.loop-i.invariant (omega arith) (search rules) (search rules)

pub returns : goal.returns
returns c =
    let r = c.requires.a_len in
    let long : length c.args.sums.now ≡ 128 = omega arith in
    let sums = c.args.sums.now in
    let made = more_products sums c.args.a.now c.args.b.now in
    finish sums made (length_more sums c.args.a.now c.args.b.now long r.0 r.1) c.loop-i.invariant (omega arith)
