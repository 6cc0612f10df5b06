-- Squared lengths and inner products, entry by entry, and what bounds them. Assumes nothing.
use mathlib.Core.Path.{◌≡◌, refl, sym, ◌∙◌, ap, ap₂}
use mathlib.Core.Logic.{◌⊎◌, inl, inr}
use mathlib.Core.List.{List, [], ◌∷◌, ◌++◌}
use Prim.Native.Nat.{ℕ, zero, suc, ◌+◌, ◌*◌, ◌<◌, ◌≤◌}
use native.Mathlib.Nat.{not-suc-le-zero, le_of_suc-le-suc, suc_inj, suc-ne-zero, mul-le-mul, mul-suc}
use native.Mathlib.Numerals.{add-one}
use native.Mathlib.Omega.{arith}
use lib.IntN.{ℤ, pos, nat_abs, ◌+ℤ◌, ◌*ℤ◌, +ℤ_assoc, +ℤ_idl}
use lib.ListN.{length, take, get_or}
use Rattle.laws.proofs.Bounds.{abs_add, abs_mul}
use Rattle.vectors.specs.Vectors.{squares, inner, sizes}

-- ---- one entry more
squares_suc : (x : List ℤ) (i : ℕ) → i < length x → squares (take (suc i) x) ≡ squares (take i x) + nat_abs (get_or x i (pos 0)) * nat_abs (get_or x i (pos 0))
unfolding squares
squares_suc [] i h = absurd (not-suc-le-zero h)
squares_suc (a ∷ x) zero h = omega arith
squares_suc (a ∷ x) (suc i) h = omega (arith, squares_suc x i (le_of_suc-le-suc h))

pub squares_more : (x : List ℤ) (i : ℕ) → i < length x → squares (take (i + 1) x) ≡ squares (take i x) + nat_abs (get_or x i (pos 0)) * nat_abs (get_or x i (pos 0))
squares_more x i h = rw add-one (squares_suc x i h)

-- of both vectors an entry is taken, and the rest is left
module _ {xs ys xs' ys' : List ℤ} {x y : ℤ} (e : xs ≡ x ∷ xs') (f : ys ≡ y ∷ ys') where
  pub inner_next : inner xs ys ≡ x *ℤ y +ℤ inner xs' ys'
  unfolding inner
  inner_next = ap₂ inner e f

  pub sizes_next : sizes xs ys ≡ nat_abs x * nat_abs y + sizes xs' ys'
  unfolding sizes
  sizes_next = ap₂ sizes e f

-- one of the vectors is at its end
pub inner_none : (xs ys : List ℤ) → (length xs ≡ 0) ⊎ (length ys ≡ 0) → inner xs ys ≡ pos 0
unfolding inner
inner_none [] ys h = refl
inner_none (x ∷ xs) [] h = refl
inner_none (x ∷ xs) (y ∷ ys) h = elim h [ inl e ↦ absurd (suc-ne-zero (length xs) e) | inr e ↦ absurd (suc-ne-zero (length ys) e) ]

-- ---- in parts
pub inner_append : (a b c d : List ℤ) → length a ≡ length b → inner (a ++ c) (b ++ d) ≡ inner a b +ℤ inner c d
unfolding inner
inner_append [] [] c d e = sym (+ℤ_idl (inner c d))
inner_append [] (y ∷ b) c d e = absurd (suc-ne-zero (length b) (sym e))
inner_append (x ∷ a) [] c d e = absurd (suc-ne-zero (length a) e)
inner_append (x ∷ a) (y ∷ b) c d e = ap (λ (z : ℤ). x *ℤ y +ℤ z) (inner_append a b c d (suc_inj e)) ∙ sym (+ℤ_assoc (x *ℤ y) _ _)

-- ---- bounds
pub squares_le : (bound : ℕ) (x : List ℤ) → ((k : ℕ) → nat_abs (get_or x k (pos 0)) ≤ bound) → squares x ≤ bound * bound * length x
unfolding squares
squares_le bound [] h = omega arith
squares_le bound (a ∷ x) h =
    let rest = squares_le bound x (λ k. h (suc k)) in
    omega (arith, mul-le-mul (h 0) (h 0), mul-suc (bound * bound) (length x), rest)

pub inner_le_sizes : (x y : List ℤ) → nat_abs (inner x y) ≤ sizes x y
unfolding inner sizes
inner_le_sizes [] y = omega arith
inner_le_sizes (a ∷ x) [] = omega arith
inner_le_sizes (a ∷ x) (b ∷ y) = omega (arith, abs_add (a *ℤ b) (inner x y), abs_mul a b, inner_le_sizes x y)
