-- How much the dropped digits cost (02, C-24): the difference of two rests, and 2 more or less where u - z2 wraps, since p 2^d is 2q - 2. Assumes nothing.
use mathlib.Core.Path.{◌≡◌, refl, sym, ap, subst, ◌∙◌}
use mathlib.Core.Bool.{Bool, true, ◌&&◌}
use mathlib.Core.List.{List, [], ◌∷◌}
use Prim.Native.Nat.{ℕ, ◌+◌, ◌*◌, ◌-◌, ◌/◌, ◌^◌, ◌<◌, ◌≤◌}
use native.Mathlib.Nat.{mul_comm, add-mul, lt_of_mul-lt-mul_right}
use native.Mathlib.Omega.{arith}
use borrow.Author.Tests.{leb-true}
use lib.Dec.{leb, ltb, lit<}
use lib.IntN.{ℤ, pos, neg_ℤ, nat_abs, ◌+ℤ◌, ◌-ℤ◌, ◌*ℤ◌}
use lib.ListN.{length, get_or}
use lib.Signed.{le_z}
use Rattle.laws.specs.Integers.{residue}
use Rattle.laws.proofs.Bounds.{abs_mul}
use Rattle.laws.proofs.Chain.{and_left, and_right}
use Rattle.laws.proofs.Linear.{le_in, lt_in, eq_in, le_out, lt_out, eq_out, le_yes, sum, difference, opposite, multiple, size, size_le}
use Rattle.laws.proofs.Congruence.{Cong, cong_sub, cong_sym, cong_trans, cong_mod, residue_lt, residue_cong}
use Rattle.laws.proofs.Solver.{v, k, ◌⊕◌, ◌⊖◌, ◌⊗◌, ring}
use Rattle.sets.specs.declared.Set.{Set}
use Rattle.sets.specs.Numbers.{twice_modulus, d_of, p_of}
use Rattle.sets.proofs.Alike.{computed, of_all, spread, step_small, p_even, kappa_within}
use Rattle.answers.specs.Outcomes.{Outcome}
use Rattle.answers.proofs.Calls.{zero_is}
use Rattle.rounding.specs.Rounding.{quotient, upper, rest, centred, dagger}
use Rattle.rounding.proofs.Laws.{halves, rest_range, rest_completes, centred_alone}
use Rattle.commitment.specs.Commitment.{sums}
use Rattle.commitment.proofs.Sums.{sums_reduced}
use Rattle.masking.specs.Masking.{masked}
use Rattle.signing.specs.Response.{Lent, responded}
use Rattle.promises.specs.Dropped.{cost, figure_of, z2_limit_of, reduced, z2_of, DroppedDigits, CostInRests, DroppedGivenOut, Costs, FigureReached}
use Rattle.promises.proofs.Signatures.{Admitted, given_out}
use Rattle.promises.proofs.Agreement.{z_second, daggers_512, dagger_at}
use Rattle.promises.proofs.Trials.{z2_within}

-- ---- in general
module _ (s : Set) (u : ℕ) (z : ℤ) where
  abbrev step : ℤ
  step = pos (2 ^ d_of s)

  abbrev w : ℕ
  w = reduced u z

  wraps : Cong twice_modulus (pos u -ℤ z) (pos w)
  wraps = residue_cong (lit< tt) (pos u -ℤ z)

  -- how often 24578 was taken off
  abbrev turns : ℤ
  turns = wraps.times

  -- the steps from u - z to u, where p steps make up for a turn
  abbrev steps : ℤ
  steps = pos (quotient s u) -ℤ pos (quotient s w) -ℤ pos (p_of s) *ℤ turns

  -- what they cost
  abbrev apart : ℤ
  apart = (rest s w -ℤ rest s u) +ℤ pos 2 *ℤ turns

  -- x by its quotient and its rest
  abbrev parts : ℕ → ℤ
  parts x = pos (2 ^ d_of s * quotient s x) +ℤ rest s x

  z_is : z ≡ parts u -ℤ (parts w +ℤ pos (p_of s * 2 ^ d_of s + 2) *ℤ turns)
  z_is =
      ring (pos u ∷ z ∷ []) (v 1) (v 0 ⊖ (v 0 ⊖ v 1)) refl
      ∙ ap (λ (x : ℤ). pos u -ℤ x) wraps.eq
      ∙ ap (λ (x : ℤ). x -ℤ (pos w +ℤ pos twice_modulus *ℤ turns)) (rest_completes s u)
      ∙ ap (λ (x : ℤ). parts u -ℤ (x +ℤ pos twice_modulus *ℤ turns)) (rest_completes s w)
      ∙ ap (λ (m : ℕ). parts u -ℤ (parts w +ℤ pos m *ℤ turns)) (sym (spread s))

  steps_cost : cost s steps z ≡ apart
  steps_cost =
      ap (λ (x : ℤ). step *ℤ steps -ℤ x) z_is
      ∙ ring (step ∷ pos (quotient s u) ∷ pos (quotient s w) ∷ pos (p_of s) ∷ turns ∷ rest s u ∷ rest s w ∷ [])
      (v 0 ⊗ (v 1 ⊖ v 2 ⊖ v 3 ⊗ v 4) ⊖ ((v 0 ⊗ v 1 ⊕ v 5) ⊖ ((v 0 ⊗ v 2 ⊕ v 6) ⊕ (v 3 ⊗ v 0 ⊕ k (pos 2)) ⊗ v 4)))
      (v 6 ⊖ v 5 ⊕ k (pos 2) ⊗ v 4) refl

  module _ (below : u < twice_modulus) (small : nat_abs z ≤ z2_limit_of s) where
    one_turn : nat_abs turns ≤ 1
    one_turn =
        let equal = eq_in wraps.eq in
        let left = difference (pos u) z in
        let right = sum (pos w) (pos twice_modulus *ℤ turns) in
        let taken = multiple twice_modulus turns in
        let inside : w < twice_modulus = residue_lt (lit< tt) (pos u -ℤ z) in
        size_le turns 1 (omega (arith, equal, left, right, taken, inside, size z)) (omega (arith, equal, left, right, taken, inside, size z))

    -- two rests are less than a step apart
    apart_small : nat_abs apart ≤ 2 ^ d_of s + 1
    apart_small =
        let total = sum (rest s w -ℤ rest s u) (pos 2 *ℤ turns) in
        let rests = difference (rest s w) (rest s u) in
        let turned = multiple 2 turns in
        let from = rest_range s u in
        let to = rest_range s w in
        let half = opposite (pos (2 ^ (d_of s - 1))) in
        size_le apart (2 ^ d_of s + 1)
        (omega (arith, total, rests, turned, size turns, one_turn, le_in from.0, lt_in to.1, half, halves s))
        (omega (arith, total, rests, turned, size turns, one_turn, le_in to.0, lt_in from.1, half, halves s))

    -- so that they are fewer than p / 2 either way: they come to less than q - 1, which is half of p steps
    few_steps : nat_abs steps < p_of s / 2
    few_steps =
        let left = difference (step *ℤ steps) z in
        let right = eq_in steps_cost in
        let whole : nat_abs (step *ℤ steps) ≤ 12287 =
        size_le (step *ℤ steps) 12287 (omega (arith, left, right, size apart, size z, apart_small, step_small s))
        (omega (arith, left, right, size apart, size z, apart_small, step_small s)) in
        let half : (p_of s / 2) * 2 ^ d_of s ≡ 12288 =
        omega (arith, spread s, ap (λ (n : ℕ). n * 2 ^ d_of s) (p_even s), add-mul (p_of s / 2) (p_of s / 2) (2 ^ d_of s)) in
        lt_of_mul-lt-mul_right (2 ^ d_of s) (omega (arith, whole, half, abs_mul step steps, mul_comm (2 ^ d_of s) (nat_abs steps)))

    -- and centring leaves them as they are
    dagger_is : dagger s u z ≡ steps
    unfolding dagger upper
    dagger_is =
        let half = opposite (pos (p_of s / 2)) in
        let quotients = pos (quotient s u) -ℤ pos (quotient s w) in
        let same : Cong (p_of s) (pos (upper s u) -ℤ pos (upper s w)) steps =
        cong_trans (cong_sub (cong_sym (cong_mod (quotient s u))) (cong_sym (cong_mod (quotient s w))))
        (record { times = turns; eq = ring (quotients ∷ pos (p_of s) ∷ turns ∷ []) (v 0) (v 0 ⊖ v 1 ⊗ v 2 ⊕ v 1 ⊗ v 2) refl }) in
        centred_alone s (pos (upper s u) -ℤ pos (upper s w)) steps
        (le_out (omega (arith, half, size steps, few_steps)), lt_out (omega (arith, size steps, few_steps)))
        (same.times, same.eq)

    cost_is : cost s (dagger s u z) z ≡ apart
    cost_is = ap (λ (x : ℤ). cost s x z) dagger_is ∙ steps_cost

pub cost_in_rests : CostInRests
cost_in_rests s u z below small = (turns s u z, one_turn s u z below small, (wraps s u z).eq, cost_is s u z below small)

pub dropped_digits : DroppedDigits
dropped_digits s u z below small = rw (cost_is s u z below small) (omega (arith, apart_small s u z below small))

-- ---- of what is given out
module _ (s : Set) (c : Lent) (before : Admitted s c) where
  abbrev u_of : List ℕ
  u_of = sums c.a c.y1 c.y2

  -- z2 is far within the limit: a mask and kappa columns of at most 5
  z2_small : (i : ℕ) → nat_abs (get_or (z2_of c) i (pos 0)) ≤ z2_limit_of s
  unfolding masked
  z2_small i =
      omega (
        arith,
        z2_within s c.f c.g c.a c.list before.key before.list c.y1 c.y2 c.sign before.long_y1 before.long_y2 before.masks i,
        kappa_within s,
        step_small s,
      )

  dropped_at : (i : ℕ) → nat_abs (cost s (dagger s (get_or u_of i 0) (get_or (z2_of c) i (pos 0))) (get_or (z2_of c) i (pos 0))) ≤ figure_of s
  dropped_at i = dropped_digits s (get_or u_of i 0) (get_or (z2_of c) i (pos 0)) (sums_reduced c.a c.y1 c.y2 i) (z2_small i)

pub dropped_given_out : DroppedGivenOut
dropped_given_out set key c o count back z1 z2 e zero =
    let given = given_out c count z1 z2 set key back (e ∙ ap (λ (p : Outcome). responded p count back z1 z2) (zero_is o zero)) in
    let s = given.0 in
    let passed = given.2 in
    let signature = given.3 in (
      s,
      given.1,
      ap length signature.dagger ∙ daggers_512 s c passed,
      z_second s c passed,
      λ i h.
          let z = get_or (z2_of c) i (pos 0) in
          let is : get_or z2 i (pos 0) ≡ dagger s (get_or (u_of s c passed) i 0) z =
          ap (λ (l : List ℤ). get_or l i (pos 0)) signature.dagger ∙ dagger_at s c passed i h in
          subst (λ (x : ℤ). nat_abs (cost s x z) ≤ figure_of s) (sym is) (dropped_at s c passed i),
    )

-- ---- the figure is reached
-- `Costs` as a test
abbrev costs : Set → ℕ → ℤ → ℤ → Bool
costs s u z x =
    let found = cost s (dagger s u z) z in
    ltb u twice_modulus && (leb (nat_abs z) (z2_limit_of s) && (le_z found x && le_z x found))

costs_tested : (s : Set) (u : ℕ) (z x : ℤ) → costs s u z x ≡ true → Costs s u z x
costs_tested s u z x e =
    let found = cost s (dagger s u z) z in
    let one = and_right (ltb u twice_modulus) _ e in
    let two = and_right (leb (nat_abs z) (z2_limit_of s)) _ one in (
      leb-true _ _ (and_left (ltb u twice_modulus) _ e),
      leb-true _ _ (and_left (leb (nat_abs z) (z2_limit_of s)) _ one),
      eq_out found x (omega (arith, le_yes found x (and_left (le_z found x) _ two), le_yes x found (and_right (le_z found x) _ two))),
    )

module _ (s : Set) where
  abbrev up : ℤ
  up = pos (figure_of s)

  abbrev down : ℤ
  down = neg_ℤ (pos (figure_of s))

  abbrev reaches_up : Bool
  reaches_up = costs s (p_of s * 2 ^ d_of s - 2 ^ (d_of s - 1)) down up

  abbrev reaches_down : Bool
  reaches_down = costs s (2 ^ (d_of s - 1) - 1) up down

-- computed, of every set
reached : computed (λ s. reaches_up s && reaches_down s) ≡ true
unfolding dagger centred upper quotient residue
reached = refl

pub figure_reached : FigureReached
figure_reached s =
    let both = of_all (λ s. reaches_up s && reaches_down s) reached s in
    (costs_tested s _ (down s) (up s) (and_left (reaches_up s) _ both), costs_tested s _ (up s) (down s) (and_right (reaches_up s) _ both))
