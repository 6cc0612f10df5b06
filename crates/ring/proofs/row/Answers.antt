use mathlib.Core.Path.{◌≡◌, refl, ap, ap₂, sym, ◌∙◌}
use mathlib.Core.List.{List, [], ◌∷◌}
use Prim.Native.Nat.{ℕ, zero, suc, ◌≤◌, ◌<◌, ◌+◌, ◌*◌, ◌%◌}
use native.Mathlib.Nat.{not-suc-le-zero}
use native.Mathlib.Omega.{arith}
use lib.ListN.{length, get_or, take, drop, set as update, length-set}
use lib.Seq.{length-take-le, get_or-take, take-set-lt}
use Rattle.laws.specs.Lists.{zip_with}
use Rattle.laws.proofs.Entries.{length-zip_with, get_or-zip_with}
use Rattle.laws.proofs.Loops.{Rewritten, next_is, more, finish}
use Rattle.ring.specs.Transform.{Within}
use Rattle.ring.proofs.Estimates.{residues_product}
use Rattle.ring.proofs.row.Goals as goal

-- what is written
abbrev added : ℕ → List ℕ → List ℕ → List ℕ
added a s c = zip_with (λ y z. z + a * y) s (take 8 c)

length-added : (a : ℕ) (s c : List ℕ) → length s ≡ 8 → 9 ≤ length c → length (added a s c) ≡ length (take 8 c)
length-added a s c e p =
    let l = length-take-le 8 c (omega arith) in
    length-zip_with (λ y z. z + a * y) s (take 8 c) (e ∙ sym l) ∙ e ∙ sym l

-- the entries that the first row is added to
opened : (c : List ℕ) (v : ℕ) → 9 ≤ length c → take 8 (update c 0 v) ≡ v ∷ take 7 (drop 1 c)
opened [] v p = absurd (not-suc-le-zero p)
opened (x ∷ c) v p = refl

within-opened : (b v : ℕ) (l : List ℕ) → v ≤ b → Within b l → Within b (v ∷ l)
within-opened b v l p q zero = p
within-opened b v l p q (suc i) = q i

module _ (a head : ℕ) (s c : List ℕ) (long : 9 ≤ length c) (ls : length s ≡ 8) (a_small : a ≤ 12288) (head_small : head ≤ 150994944) (s_small : Within 12288 s) (c_small : Within 1207959552 (take 7 (drop 1 c))) where
  -- c, once its first entry is set
  abbrev set_list : List ℕ
  set_list = update c 0 head

  same : length (added a s set_list) ≡ length (take 8 set_list)
  same = length-added a s set_list ls (rw length-set long)

  eight : length (take 8 set_list) ≡ 8
  eight = length-take-le 8 set_list (rw length-set (omega arith))

  small : Within 1207959552 (take 8 set_list)
  small = rw (opened c head long) (within-opened 1207959552 head (take 7 (drop 1 c)) (omega (arith, head_small)) c_small)

  -- an entry of s, its product by a, and what it is added to
  module _ (i : ℕ) (now : List ℕ) (so : Rewritten (take 8 set_list) (added a s set_list) i (take 8 now)) (below : i < 8) (product : ℕ) (is : product ≡ a * get_or s i 0) where
    next : get_or now i 0 ≡ get_or (take 8 set_list) i 0
    next = sym (get_or-take 8 now i 0 below) ∙ next_is _ _ same so 0 (omega (arith, eight))

    room : get_or now i 0 + product ≤ 1358954496
    room = let most : a * get_or s i 0 ≤ 150994944 = residues_product a_small (s_small i) in omega (arith, next, small i, is)

    step : Rewritten (take 8 set_list) (added a s set_list) (i + 1) (take 8 (update now i (get_or now i 0 + product)))
    step =
        rw (take-set-lt 8 now i (get_or now i 0 + product) below)
        (more _ _ same so 0 _ (omega (arith, eight))
        (ap₂ ◌+◌ next is ∙ sym (get_or-zip_with (λ y z. z + a * y) s (take 8 set_list) i 0 0 0 (omega arith) (omega (arith, eight)))))

  whole : (i : ℕ) (now : List ℕ) → Rewritten (take 8 set_list) (added a s set_list) i (take 8 now) → 8 ≤ i → take 8 now ≡ zip_with (λ y z. z + a * y) s (head ∷ take 7 (drop 1 c))
  whole i now so done = finish _ _ same so (omega (arith, eight)) ∙ ap (zip_with (λ y z. z + a * y) s) (opened c head long)

pub overflow_add-c : goal.overflow_add-c
overflow_add-c c =
    let a = c.args in
    let r = c.requires.in_bounds in
    let l = c.loop-i in
    let head = c.from.result * (get_or a.c.now 8 0 % 12289) in
    let first : head ≤ 150994944 = residues_product (omega (arith, c.from.ensures)) (omega arith) in
    omega (
      arith,
      room a.a head a.s.now a.c.now r.0 (omega arith) (omega arith) first r.3 c.requires.within l.i l.c l.invariant (omega arith)
          (c.from-in-loop-i.result * c.from-in-loop-i-2.result) (ap₂ ◌*◌ c.from-in-loop-i.ensures c.from-in-loop-i-2.ensures),
    )

pub loop-i-preserved : goal.loop-i-preserved
loop-i-preserved c =
    let a = c.args in
    let r = c.requires.in_bounds in
    let l = c.loop-i in
    let head = c.from.result * (get_or a.c.now 8 0 % 12289) in
    let first : head ≤ 150994944 = residues_product (omega (arith, c.from.ensures)) (omega arith) in
    step a.a head a.s.now a.c.now r.0 (omega arith) (omega arith) first r.3 c.requires.within l.i l.c l.invariant (omega arith) _
    (ap₂ ◌*◌ c.from-in-loop-i.ensures c.from-in-loop-i-2.ensures)

pub returns : goal.returns
returns c =
    let a = c.args in
    let r = c.requires.in_bounds in
    let l = c.loop-i in
    let last = get_or a.c.now 8 0 % 12289 in
    let first : c.from.result * last ≤ 150994944 = residues_product (omega (arith, c.from.ensures)) (omega arith) in
    whole a.a (c.from.result * last) a.s.now a.c.now r.0 (omega arith) (omega arith) first r.3 c.requires.within l.i l.c l.invariant (omega arith)
    ∙ ap (λ (w : ℕ). zip_with (λ y z. z + a.a * y) a.s.now (w * last ∷ take 7 (drop 1 a.c.now))) c.from.ensures
