-- Upper digits count the nearest step, the rest is what lies above it, and the centred number is the one in -p/2 .. p/2 - 1 that is congruent. Over d and p, for
-- every set alike. Everything else about the three is proved from these laws. Assumes nothing.
use mathlib.Core.Path.{◌≡◌, refl, ap, ◌∙◌}
use mathlib.Core.List.{[], ◌∷◌}
use Prim.Native.Nat.{ℕ, suc, ◌+◌, ◌*◌, ◌-◌, ◌/◌, ◌%◌, ◌^◌, ◌<◌, ◌≤◌}
use native.Mathlib.Nat.{two-pow-succ, div-eq_of_lt-le, mul-div-le, lt-mul-div-succ, mod-lt}
use native.Mathlib.Omega.{arith}
use lib.Dec.{ltb, ltb→lt, nltb→le}
use lib.IntN.{ℤ, pos, neg_ℤ, ◌+ℤ◌, ◌-ℤ◌, ◌*ℤ◌}
use Rattle.laws.specs.Integers.{residue}
use Rattle.laws.proofs.Bounds.{cond_ind}
use Rattle.laws.proofs.Linear.{above, under, le_in, lt_in, eq_in, le_out, lt_out, eq_out, sum, difference, opposite}
use Rattle.laws.proofs.Congruence.{Cong, cong_eq, cong_refl, cong_sym, cong_trans, cong_add, cong_unique, residue_lt, residue_cong}
use Rattle.laws.proofs.Solver.{v, k, ◌⊕◌, ◌⊗◌, neg, ring}
use Rattle.sets.specs.declared.Set.{Set}
use Rattle.sets.specs.Numbers.{d_of, p_of}
use Rattle.sets.proofs.Alike.{d_at_least_8, step_at_least_256, p_positive, p_even}
use Rattle.rounding.specs.Rounding.{quotient, upper, rest, half_of, centred}
use Rattle.rounding.specs.Laws.{QuotientNearest, QuotientAlone, UpperIsNearest, UpperBelow, RestRange, RestCompletes, RestAlone, is_centred, CentredRange, CentredCongruent, CentredAlone, HalfCentred}

-- ---- upper digits

-- a step is two halves
pub halves : (s : Set) → 2 ^ d_of s ≡ 2 ^ (d_of s - 1) + 2 ^ (d_of s - 1)
halves s =
    let e : d_of s ≡ suc (d_of s - 1) = omega (arith, d_at_least_8 s) in
    ap (λ (n : ℕ). 2 ^ n) e ∙ two-pow-succ (d_of s - 1)

pub quotient_nearest : QuotientNearest
unfolding quotient
quotient_nearest s x =
    let y : ℕ = x + 2 ^ (d_of s - 1) in
    let positive : 0 < 2 ^ d_of s = omega (arith, step_at_least_256 s) in
    (mul-div-le y (2 ^ d_of s), omega (arith, halves s, lt-mul-div-succ y positive))

pub quotient_alone : QuotientAlone
unfolding quotient
quotient_alone s x n h = div-eq_of_lt-le (2 ^ d_of s) (omega arith) (omega (arith, halves s))

pub upper_is_nearest : UpperIsNearest
unfolding upper
upper_is_nearest s x n h = ap (λ (m : ℕ). m % p_of s) (quotient_alone s x n h)

pub upper_below : UpperBelow
unfolding upper
upper_below s x = mod-lt _ (p_positive s)

-- ---- rests
module _ (s : Set) (x : ℕ) where
  abbrev stepped : ℕ
  stepped = 2 ^ d_of s * quotient s x

pub rest_range : RestRange
unfolding rest
rest_range s x =
    let d = difference (pos x) (pos (stepped s x)) in
    let near = quotient_nearest s x in
    (le_out (omega (arith, d, near, opposite (pos (2 ^ (d_of s - 1))))), lt_out (omega (arith, d, near)))

pub rest_completes : RestCompletes
unfolding rest
rest_completes s x =
    let r : ℤ = pos x -ℤ pos (stepped s x) in
    eq_out (pos x) (pos (stepped s x) +ℤ r) (omega (arith, difference (pos x) (pos (stepped s x)), sum (pos (stepped s x)) r))

pub rest_alone : RestAlone
rest_alone s x n r h e =
    let half = opposite (pos (2 ^ (d_of s - 1))) in
    let total = eq_in e in
    let parts = sum (pos (2 ^ d_of s * n)) r in
    let one : quotient s x ≡ n =
    quotient_alone s x n (omega (arith, total, parts, half, le_in h.0), omega (arith, total, parts, lt_in h.1)) in
    let mine = eq_in (rest_completes s x) in (
      one,
      eq_out (rest s x) r
          (omega (arith, total, parts, mine, sum (pos (stepped s x)) (rest s x), ap (λ (m : ℕ). 2 ^ d_of s * m) one)),
    )

-- ---- centring
module _ (s : Set) (z : ℤ) where
  abbrev r : ℕ
  r = residue (p_of s) z

  abbrev down : ℤ
  down = pos r -ℤ pos (p_of s)

pub centred_range : CentredRange
unfolding centred
centred_range s z =
    let x : ℤ = pos (r s z) in
    let p : ℤ = pos (p_of s) in
    let half = opposite (pos (p_of s / 2)) in
    cond_ind (ltb (r s z) (half_of s)) x (down s z) (is_centred s)
    (λ t. (le_out (omega (arith, half)), lt_out (omega (arith, ltb→lt (r s z) (half_of s) t))))
    (λ t. (
      le_out (omega (arith, half, difference x p, nltb→le (r s z) (half_of s) t, p_even s)),
      lt_out (omega (arith, difference x p, p_even s, p_positive s, residue_lt (p_positive s) z)),
    ))

pub centred_cong : (s : Set) (z : ℤ) → Cong (p_of s) z (centred s z)
unfolding centred
centred_cong s z =
    let x : ℤ = pos (r s z) in
    let c : Cong (p_of s) z x = residue_cong (p_positive s) z in
    cond_ind (ltb (r s z) (half_of s)) x (down s z) (Cong (p_of s) z) (λ t. c)
    (λ t. cong_trans c (record { times = pos 1; eq = ring (x ∷ pos (p_of s) ∷ []) (v 0) (v 0 ⊕ neg (v 1) ⊕ v 1 ⊗ k (pos 1)) refl }))

pub centred_congruent : CentredCongruent
centred_congruent s z = ((centred_cong s z).times, (centred_cong s z).eq)

-- a number of the range, raised by p/2, is a residue
module _ (s : Set) (c : ℤ) (h : is_centred s c) where
  abbrev raised : ℕ
  raised = above c + p_of s / 2 - under c

  low : under c ≤ above c + p_of s / 2
  low = omega (arith, le_in h.0, opposite (pos (p_of s / 2)))

  raised_lt : raised < p_of s
  raised_lt = omega (arith, low, lt_in h.1, p_even s)

  raised_is : pos raised ≡ c +ℤ pos (p_of s / 2)
  raised_is = eq_out _ _ (omega (arith, low, sum c (pos (p_of s / 2))))

pub centred_alone : CentredAlone
centred_alone s z c h e =
    let x : ℤ = centred s z in
    let j : is_centred s x = centred_range s z in
    let same : Cong (p_of s) x c = cong_trans (cong_sym (centred_cong s z)) (record { times = e.0; eq = e.1 }) in
    let one : raised s x j ≡ raised s c h =
    cong_unique
    (cong_trans (cong_eq (raised_is s x j)) (cong_trans (cong_add same (cong_refl (pos (p_of s / 2)))) (cong_sym (cong_eq (raised_is s c h)))))
    (raised_lt s x j) (raised_lt s c h) in
    eq_out x c (omega (arith, one, low s x j, low s c h))

pub half_centred : HalfCentred
half_centred s =
    let half : ℕ = p_of s / 2 in
    centred_alone s (pos half) (neg_ℤ (pos half))
    (le_out (omega arith), lt_out (omega (arith, opposite (pos half), p_even s, p_positive s)))
    (pos 1, eq_out (pos half) (neg_ℤ (pos half) +ℤ pos (p_of s) *ℤ pos 1) (omega (arith, opposite (pos half), sum (neg_ℤ (pos half)) (pos (p_of s) *ℤ pos 1), p_even s)))
