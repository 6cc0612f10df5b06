-- Congruence of whole numbers modulo m, and residues. Assumes nothing.
use mathlib.Core.Path.{◌≡◌, refl, sym, ◌∙◌, ap}
use mathlib.Core.List.{[], ◌∷◌}
use Prim.Native.Nat.{ℕ, zero, suc, ◌+◌, ◌*◌, ◌-◌, ◌/◌, ◌%◌, ◌<◌}
use native.Mathlib.Nat.{div-add-mod', mod-lt, mod-eq_of_lt}
use native.Mathlib.Omega.{arith}
use lib.IntN.{ℤ, pos, negsuc, neg_ℤ, ◌+ℤ◌, ◌-ℤ◌, ◌*ℤ◌}
use Rattle.laws.specs.Integers.{residue}
use Rattle.laws.proofs.Linear.{eq_in, eq_out, sum, multiple}
use Rattle.laws.proofs.Solver.{v, k, ◌⊕◌, ◌⊗◌, neg, ring}

-- x is y and a multiple of m
pub record Cong (m : ℕ) (x y : ℤ) : Type 0 where
  pub times : ℤ
  pub eq : x ≡ y +ℤ pos m *ℤ times

module _ {m : ℕ} where
  pub cong_eq : {x y : ℤ} → x ≡ y → Cong m x y
  cong_eq {x} {y} e =
      record { times = pos 0; eq = e ∙ ring (y ∷ pos m ∷ []) (v 0) (v 0 ⊕ v 1 ⊗ k (pos 0)) refl }

  pub cong_refl : (x : ℤ) → Cong m x x
  cong_refl x = cong_eq refl

  pub cong_sym : {x y : ℤ} → Cong m x y → Cong m y x
  cong_sym {x} {y} c =
      record {
        times = neg_ℤ c.times;
        eq = ring (y ∷ pos m ∷ c.times ∷ []) (v 0) (v 0 ⊕ v 1 ⊗ v 2 ⊕ v 1 ⊗ neg (v 2)) refl ∙ ap (λ (z : ℤ). z +ℤ pos m *ℤ neg_ℤ c.times) (sym c.eq);
      }

  pub cong_trans : {x y z : ℤ} → Cong m x y → Cong m y z → Cong m x z
  cong_trans {x} {y} {z} c d =
      record {
        times = d.times +ℤ c.times;
        eq = c.eq ∙ ap (λ (u : ℤ). u +ℤ pos m *ℤ c.times) d.eq
            ∙ ring (z ∷ pos m ∷ c.times ∷ d.times ∷ []) (v 0 ⊕ v 1 ⊗ v 3 ⊕ v 1 ⊗ v 2) (v 0 ⊕ v 1 ⊗ (v 3 ⊕ v 2)) refl;
      }

  pub cong_add : {x y x' y' : ℤ} → Cong m x x' → Cong m y y' → Cong m (x +ℤ y) (x' +ℤ y')
  cong_add {x} {y} {x'} {y'} c d =
      record {
        times = c.times +ℤ d.times;
        eq = ap (λ (u : ℤ). u +ℤ y) c.eq ∙ ap (λ (u : ℤ). x' +ℤ pos m *ℤ c.times +ℤ u) d.eq
            ∙ ring (x' ∷ y' ∷ pos m ∷ c.times ∷ d.times ∷ []) (v 0 ⊕ v 2 ⊗ v 3 ⊕ (v 1 ⊕ v 2 ⊗ v 4)) (v 0 ⊕ v 1 ⊕ v 2 ⊗ (v 3 ⊕ v 4)) refl;
      }

  pub cong_mul : {x y x' y' : ℤ} → Cong m x x' → Cong m y y' → Cong m (x *ℤ y) (x' *ℤ y')
  cong_mul {x} {y} {x'} {y'} c d =
      record {
        times = c.times *ℤ y' +ℤ x' *ℤ d.times +ℤ pos m *ℤ c.times *ℤ d.times;
        eq = ap (λ (u : ℤ). u *ℤ y) c.eq ∙ ap (λ (u : ℤ). (x' +ℤ pos m *ℤ c.times) *ℤ u) d.eq
            ∙ ring (x' ∷ y' ∷ pos m ∷ c.times ∷ d.times ∷ []) ((v 0 ⊕ v 2 ⊗ v 3) ⊗ (v 1 ⊕ v 2 ⊗ v 4)) (v 0 ⊗ v 1 ⊕ v 2 ⊗ (v 3 ⊗ v 1 ⊕ v 0 ⊗ v 4 ⊕ v 2 ⊗ v 3 ⊗ v 4)) refl;
      }

  pub cong_neg : {x x' : ℤ} → Cong m x x' → Cong m (neg_ℤ x) (neg_ℤ x')
  cong_neg {x} {x'} c =
      record {
        times = neg_ℤ c.times;
        eq = ap neg_ℤ c.eq ∙ ring (x' ∷ pos m ∷ c.times ∷ []) (neg (v 0 ⊕ v 1 ⊗ v 2)) (neg (v 0) ⊕ v 1 ⊗ neg (v 2)) refl;
      }

  pub cong_sub : {x y x' y' : ℤ} → Cong m x x' → Cong m y y' → Cong m (x -ℤ y) (x' -ℤ y')
  cong_sub c d = cong_add c (cong_neg d)

  -- a multiple of m more is the same
  pub cong_multiple : (x t : ℤ) → Cong m (x +ℤ pos m *ℤ t) x
  cong_multiple x t = record { times = t; eq = refl }

  -- two residues that are congruent are one
  unique : (a b : ℕ) (t : ℤ) → pos a ≡ pos b +ℤ pos m *ℤ t → a < m → b < m → a ≡ b
  unique a b (pos zero) e h j = omega (arith, eq_in e)
  unique a b (pos (suc n)) e h j = omega (arith, eq_in e)
  unique a b (negsuc n) e h j = omega (arith, eq_in e, sum (pos b) (pos m *ℤ negsuc n), multiple m (negsuc n))

  pub cong_unique : {a b : ℕ} → Cong m (pos a) (pos b) → a < m → b < m → a ≡ b
  cong_unique {a} {b} c h j = unique a b c.times c.eq h j

  -- ---- residues
  pub cong_mod : (n : ℕ) → Cong m (pos n) (pos (n % m))
  cong_mod n = record { times = pos (n / m); eq = ap pos (omega (arith, div-add-mod' n m)) }

  module _ (positive : 0 < m) where
    pub residue_lt : (z : ℤ) → residue m z < m
    unfolding residue
    residue_lt (pos n) = mod-lt n positive
    residue_lt (negsuc n) = omega arith

    pub residue_cong : (z : ℤ) → Cong m z (pos (residue m z))
    unfolding residue
    residue_cong (pos n) = cong_mod n
    residue_cong (negsuc n) =
        let q = n / m in
        let r = n % m in
        let h : r < m = mod-lt n positive in
        record {
          times = negsuc q;
          eq = eq_out (negsuc n) (pos (m - suc r) +ℤ pos m *ℤ negsuc q)
              (omega (arith, sum (pos (m - suc r)) (pos m *ℤ negsuc q), multiple m (negsuc q), div-add-mod' n m));
        }

    -- the residue is the one number in 0 .. m - 1 that is congruent
    pub residue_is : {z : ℤ} {r : ℕ} → Cong m z (pos r) → r < m → residue m z ≡ r
    residue_is {z} {r} c h = cong_unique (cong_trans (cong_sym (residue_cong z)) c) (residue_lt z) h

    pub residue_same : {x y : ℤ} → Cong m x y → residue m x ≡ residue m y
    residue_same {x} {y} c = residue_is (cong_trans c (residue_cong y)) (residue_lt y)

    pub residue_cong_of : {x y : ℤ} → residue m x ≡ residue m y → Cong m x y
    residue_cong_of {x} {y} e = cong_trans (residue_cong x) (cong_trans (cong_eq (ap pos e)) (cong_sym (residue_cong y)))

    -- residues of sums and products, by the residues alone
    pub residue_add : (x y : ℤ) → residue m (x +ℤ y) ≡ (residue m x + residue m y) % m
    residue_add x y =
        residue_is (cong_trans (cong_add (residue_cong x) (residue_cong y)) (cong_mod (residue m x + residue m y))) (mod-lt _ positive)

    pub residue_mul : (x y : ℤ) → residue m (x *ℤ y) ≡ residue m x * residue m y % m
    residue_mul x y =
        residue_is (cong_trans (cong_mul (residue_cong x) (residue_cong y)) (cong_mod (residue m x * residue m y))) (mod-lt _ positive)

  pub residue_small : (n : ℕ) → n < m → residue m (pos n) ≡ n
  unfolding residue
  residue_small n h = mod-eq_of_lt h
