use mathlib.Core.Path.{◌≡◌, ap, ◌∙◌}
use mathlib.Core.List.{List, ◌++◌}
use Prim.Native.Nat.{ℕ, ◌-◌, ◌+◌, ◌<◌, ◌≤◌}
use native.Mathlib.Omega.{arith}
use lib.ListN.{length, get_or, take, drop, length-drop}
use lib.Seq.{length-take-le, take_all, drop_at, take-append-le}
use borrow.Rule.Slice.PartMut.{put_mid, same_len_mid}
use Rattle.std.proofs.lemmas.Grind.{common_steps}
use Rattle.ring.specs.Transform.{Within}
use Rattle.ring.proofs.Rows.{Window, grown, begin, room, more}
use Rattle.ring.proofs.block.Goals as goal

-- the part of c from i on
part_is : (i : ℕ) (c : List ℕ) → length c ≡ 16 → take (16 - i) (drop i c) ≡ drop i c
part_is i c e = take_all (16 - i) (drop i c) (omega (arith, length-drop i c))

-- what its first 8 entries are once it is back
part_back : (i : ℕ) (c n : List ℕ) → length c ≡ 16 → i < 8 → length n ≡ 16 - i → take 8 (drop i (put_mid i (16 - i) c n)) ≡ take 8 n
part_back i c n e p l =
    ap (take 8) (drop_at (take i c) (n ++ drop (16 - i) (drop i c)) i (length-take-le i c (omega arith)))
    ∙ take-append-le 8 n (drop (16 - i) (drop i c)) (omega arith)

module _ (w : ℕ) (f s : List ℕ) (w_small : w ≤ 12288) (lf : length f ≡ 8) (ls : length s ≡ 8) (f_small : Within 12288 f) (s_small : Within 12288 s) where
  -- the rows so far stand one place above
  module _ (j : ℕ) (c : List ℕ) (inside : 0 < j) (most : j ≤ 8) (was : Window w f s j c) where
    abbrev i : ℕ
    i = j - 1

    below : i < 8
    below = omega arith

    so : Window w f s (i + 1) c
    so = let e : i + 1 ≡ j = omega arith in rw e was

    lent : take (16 - i) (drop i c) ≡ drop i c
    lent = part_is i c was.long

    room_left : Within 1207959552 (take 7 (drop 1 (take (16 - i) (drop i c))))
    room_left = rw lent (room w f s w_small lf ls f_small s_small so below)

    next : (n : List ℕ) → length n ≡ length (take (16 - i) (drop i c))
        → take 8 n ≡ grown w (get_or f i 0) s (get_or (take (16 - i) (drop i c)) 8 0) (take 7 (drop 1 (take (16 - i) (drop i c))))
        → Window w f s i (put_mid i (16 - i) c n)
    next n ln is =
        let ln' : length n ≡ 16 - i = ln ∙ ap length lent ∙ omega (arith, was.long, length-drop i c) in
        more w f s w_small lf ls f_small s_small so below (put_mid i (16 - i) c n) (same_len_mid i (16 - i) c n ln ∙ was.long)
        (part_back i c n was.long below ln' ∙ is
        ∙ ap (λ (r : List ℕ). grown w (get_or f i 0) s (get_or r 8 0) (take 7 (drop 1 r))) lent)

pub loop-i-init : goal.loop-i-init
loop-i-init c =
    let a = c.args in
    (omega arith, begin a.w a.f.now a.s.now (omega arith) c.requires.1 c.requires.0 c.requires.4 c.requires.3)

pub row-requires-clause-in_bounds : goal.row-requires-clause-in_bounds
row-requires-clause-in_bounds c =
    let same : c.unwrap-known.result.now ≡ c.args.s.now = grind (arith, common_steps) in
    (omega arith, omega arith, c.requires.2, rw same c.requires.3)

pub row-requires-clause-within : goal.row-requires-clause-within
row-requires-clause-within c =
    let a = c.args in
    let l = c.loop-i in
    room_left a.w a.f.now a.s.now (omega arith) c.requires.1 c.requires.0 c.requires.4 c.requires.3 l.i l.c c.loop-i-test.true l.invariant.0 l.invariant.1

pub loop-i-preserved : goal.loop-i-preserved
loop-i-preserved c =
    let a = c.args in
    let l = c.loop-i in
    let same : c.unwrap-known.result.now ≡ a.s.now = grind (arith, common_steps) in
    let row = rw same at c.row.ensures in (
      omega arith,
      next a.w a.f.now a.s.now (omega arith) c.requires.1 c.requires.0 c.requires.4 c.requires.3 l.i l.c c.loop-i-test.true l.invariant.0 l.invariant.1 c.row.new.c c.row.auto.c row,
    )
