-- Upper digits by their steps, the parts of what rounding answers, and the residues and centred numbers modulo p. Assumes nothing.
use mathlib.Core.Path.{◌≡◌, refl, sym, ap, ◌∙◌}
use mathlib.Core.List.{[], ◌∷◌}
use Prim.Native.Nat.{ℕ, suc, ◌+◌, ◌-◌, ◌/◌, ◌%◌, ◌^◌, ◌<◌, ◌≤◌}
use native.Mathlib.Nat.{div-lt_iff_lt-mul, suc-mul, mod-eq_of_lt, mod_self}
use native.Mathlib.Omega.{arith}
use lib.IntN.{ℤ, pos, negsuc, nat_abs, ◌+ℤ◌, ◌-ℤ◌, ◌*ℤ◌}
use Rattle.std.specs.Int.{int_rem_euclid}
use Rattle.laws.specs.Integers.{residue}
use Rattle.laws.proofs.Linear.{le_in, lt_in, le_out, lt_out, eq_out, size_le, sum, difference, opposite}
use Rattle.laws.proofs.Congruence.{Cong, cong_trans, residue_is, residue_small, residue_same, residue_cong, cong_sym, cong_add, cong_refl}
use Rattle.laws.proofs.Solver.{v, k, ◌⊕◌, ◌⊗◌, ring}
use Rattle.sets.specs.declared.Set.{Set}
use Rattle.sets.specs.Numbers.{twice_modulus, d_of, p_of}
use Rattle.sets.proofs.Alike.{spread, step_at_least_256, step_small, p_positive, p_even}
use Rattle.rounding.specs.declared.Rounded.{Rounded}
use Rattle.rounding.specs.Rounding.{quotient, upper, rest, centred}
use Rattle.rounding.proofs.Laws.{halves, quotient_nearest, upper_is_nearest, rest_range, centred_alone}

-- the steps of a reduced number are at most p
module _ (s : Set) (x : ℕ) (small : x < twice_modulus) where
  pub quotient_le : quotient s x < suc (p_of s)
  unfolding quotient
  quotient_le =
      let h : 0 < 2 ^ d_of s = omega (arith, step_at_least_256 s) in
      (div-lt_iff_lt-mul h).1 (omega (arith, spread s, step_at_least_256 s, halves s, suc-mul (p_of s) (2 ^ d_of s)))

  upper_steps : upper s x ≡ quotient s x % p_of s
  upper_steps = upper_is_nearest s x (quotient s x) (quotient_nearest s x)

  -- at p steps the remainder by p is 0
  pub upper_last : quotient s x ≡ p_of s → 0 ≡ upper s x
  upper_last e = sym (upper_steps ∙ ap (λ (n : ℕ). n % p_of s) e ∙ mod_self (p_of s))

  pub upper_inner : (quotient s x ≡ p_of s → ⊥) → quotient s x ≡ upper s x
  upper_inner n =
      let h : quotient s x < p_of s = omega (arith, quotient_le) in
      sym (upper_steps ∙ mod-eq_of_lt h)

-- a rest is at most half a step, and so fits
pub rest_small : (s : Set) (x : ℕ) → nat_abs (rest s x) ≤ 512
rest_small s x =
    let r = rest_range s x in
    let half : 2 ^ (d_of s - 1) ≤ 512 = omega (arith, halves s, step_small s) in
    size_le (rest s x) 512 (omega (arith, lt_in r.1, half)) (omega (arith, le_in r.0, opposite (pos (2 ^ (d_of s - 1))), half))

-- the parts of what rounding answers
module _ {r a : Rounded} (e : r ≡ a) where
  pub digits_are : r.digits ≡ a.digits
  digits_are = ap (λ (y : Rounded). y.digits) e

  pub rest_is : r.rest ≡ a.rest
  rest_is = ap (λ (y : Rounded). y.rest) e

-- ---- modulo p

-- a number below 2p, less p where it is not below p
module _ (p x : ℕ) where
  pub wrap_low : x < p → x ≡ residue p (pos x)
  wrap_low h = sym (residue_small x h)

  pub wrap_high : p ≤ x → x < p + p → x - p ≡ residue p (pos x)
  wrap_high h j =
      sym (residue_is (omega arith) (record { times = pos 1; eq = eq_out (pos x) (pos (x - p) +ℤ pos p *ℤ pos 1) (omega arith) }) (omega arith))

module _ (s : Set) where
  -- a residue, centred
  pub centre_low : (x : ℕ) → x < p_of s / 2 → pos x ≡ centred s (pos x)
  centre_low x h =
      sym (centred_alone s (pos x) (pos x) (le_out (omega (arith, opposite (pos (p_of s / 2)))), lt_out (omega arith)) (pos 0, eq_out (pos x) (pos x +ℤ pos (p_of s) *ℤ pos 0) (omega arith)))

  pub centre_high : (x : ℕ) → p_of s / 2 ≤ x → x < p_of s → pos x -ℤ pos (p_of s) ≡ centred s (pos x)
  centre_high x h j =
      let c : ℤ = pos x -ℤ pos (p_of s) in
      let e = difference (pos x) (pos (p_of s)) in
      sym (centred_alone s (pos x) c
      (le_out (omega (arith, e, opposite (pos (p_of s / 2)), p_even s)), lt_out (omega (arith, e)))
      (pos 1, eq_out (pos x) (c +ℤ pos (p_of s) *ℤ pos 1) (omega (arith, e, sum c (pos (p_of s) *ℤ pos 1)))))

  -- only the residue counts
  pub centred_same : (x y : ℤ) → residue (p_of s) x ≡ residue (p_of s) y → centred s x ≡ centred s y
  unfolding centred
  centred_same x y e = rw e

-- the remainder of a whole number that is not negative is its residue
pub euclid : (z : ℤ) → nat_abs (int_rem_euclid z (pos twice_modulus)) ≡ residue twice_modulus z
unfolding residue
euclid (pos n) = refl
euclid (negsuc n) = omega arith

module _ (s : Set) where
  -- a difference of upper digits, with p added so that it is not negative
  pub difference_wraps : (a b : ℕ) → b ≤ a + p_of s → residue (p_of s) (pos (residue (p_of s) (pos (a + p_of s - b)))) ≡ residue (p_of s) (pos a -ℤ pos b)
  difference_wraps a b h =
      residue_same (p_positive s)
      (cong_trans (cong_sym (residue_cong (p_positive s) (pos (a + p_of s - b))))
      (record {
        times = pos 1;
        eq = eq_out (pos (a + p_of s - b)) ((pos a -ℤ pos b) +ℤ pos (p_of s) *ℤ pos 1)
            (omega (arith, difference (pos a) (pos b), sum (pos a -ℤ pos b) (pos (p_of s) *ℤ pos 1)));
      }))

  -- a sum whose second part was raised by p and reduced
  pub sum_wraps : (a r : ℕ) (z : ℤ) → pos r ≡ z +ℤ pos (p_of s) → residue (p_of s) (pos (a + residue (p_of s) (pos r))) ≡ residue (p_of s) (pos a +ℤ z)
  sum_wraps a r z e =
      let c : Cong (p_of s) (pos (residue (p_of s) (pos r))) z =
      cong_trans (cong_sym (residue_cong (p_positive s) (pos r)))
      (record { times = pos 1; eq = e ∙ ring (z ∷ pos (p_of s) ∷ []) (v 0 ⊕ v 1) (v 0 ⊕ v 1 ⊗ k (pos 1)) refl }) in
      residue_same (p_positive s) (cong_add (cong_refl (pos a)) c)
