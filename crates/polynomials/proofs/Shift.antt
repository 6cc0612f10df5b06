-- x^i times a vector of 512 entries: its entries, as a part of the doubled vector, as x over and over. Assumes nothing.
use mathlib.Core.Path.{◌≡◌, sym, ap, ap₂, ◌∙◌}
use mathlib.Core.List.{List, ◌++◌, map}
use Prim.Native.Nat.{ℕ, suc, ◌+◌, ◌-◌, ◌<◌, ◌≤◌}
use native.Mathlib.Decide.{dec_lt}
use native.Mathlib.Omega.{arith}
use lib.IntN.{ℤ, pos, neg_ℤ, ◌+ℤ◌, ◌-ℤ◌}
use lib.ListN.{length, take, drop, get_or, length-map, length-append, length-take, length-drop, drop_of_length-le, get_or-append, get_or-map, get_or-eq_default}
use lib.Seq.{take_all, get_or-take, get_or-drop, get_or-append-add, take-append-add, drop-append-le}
use Rattle.laws.specs.Lists.{zip_with}
use Rattle.laws.proofs.Entries.{zip_with-append}
use Rattle.laws.proofs.Pointwise.{map-drop, map-zip_with, take-zip_with, drop-zip_with}
use Rattle.polynomials.specs.Product.{shift}
use Rattle.polynomials.proofs.Operations.{Linear, plus, minus, linear_neg}
use Rattle.polynomials.proofs.Rows.{turnℤ, turned_more}

-- the length of the part whose signs are turned
length_turned : (n : ℕ) (s : List ℤ) → length (map neg_ℤ (drop n s)) ≡ length s - n
length_turned n s = length-map (drop n s) neg_ℤ ∙ length-drop n s

-- a shift keeps the length
pub length_shift : (i : ℕ) (s : List ℤ) → length (shift i s) ≡ length s
unfolding shift
length_shift i s = simp (length-append, length_turned, length-take) (omega arith)

-- ---- linear
module _ {o : ℤ → ℤ → ℤ} (l : Linear o) where
  -- the shift of a sum, or of a difference
  pub shift_linear : (i : ℕ) (xs ys : List ℤ) → length xs ≡ length ys → shift i (zip_with o xs ys) ≡ zip_with o (shift i xs) (shift i ys)
  unfolding shift
  shift_linear i xs ys e =
      let n = 512 - i in
      ap₂ ◌++◌
      (ap (map neg_ℤ) (drop-zip_with o n xs ys) ∙ map-zip_with o o neg_ℤ neg_ℤ neg_ℤ (linear_neg l) (drop n xs) (drop n ys)) (take-zip_with o n xs ys)
      ∙ sym (zip_with-append o (map neg_ℤ (drop n xs)) (take n xs) (map neg_ℤ (drop n ys)) (take n ys) (simp length_turned (ap (λ (m : ℕ). m - n) e)))

-- a sum
pub shift_add : (i : ℕ) (xs ys : List ℤ) → length xs ≡ length ys → shift i (zip_with ◌+ℤ◌ xs ys) ≡ zip_with ◌+ℤ◌ (shift i xs) (shift i ys)
shift_add = shift_linear plus

-- a difference
pub shift_sub : (i : ℕ) (xs ys : List ℤ) → length xs ≡ length ys → shift i (zip_with ◌-ℤ◌ xs ys) ≡ zip_with ◌-ℤ◌ (shift i xs) (shift i ys)
shift_sub = shift_linear minus

module _ (i : ℕ) (s : List ℤ) (e : length s ≡ 512) where
  -- ---- entries

  -- below place i stand the last entries, with their signs turned
  pub shift_low : (k : ℕ) → i ≤ 512 → k < i → get_or (shift i s) k (pos 0) ≡ neg_ℤ (get_or s (512 - i + k) (pos 0))
  unfolding shift
  shift_low k m h =
      get_or-append (map neg_ℤ (drop (512 - i) s)) (take (512 - i) s) (pos 0) k (simp length_turned (omega arith))
      ∙ get_or-map neg_ℤ (drop (512 - i) s) k (pos 0) ∙ ap neg_ℤ (get_or-drop (512 - i) s k (pos 0))

  -- from place i on stand the first
  pub shift_high : (k : ℕ) → i ≤ k → k < 512 → get_or (shift i s) k (pos 0) ≡ get_or s (k - i) (pos 0)
  unfolding shift
  shift_high k h m =
      let front = map neg_ℤ (drop (512 - i) s) in
      let place : k ≡ length front + (k - i) = omega (arith, length_turned (512 - i) s) in
      ap (λ (j : ℕ). get_or (shift i s) j (pos 0)) place ∙ get_or-append-add front (take (512 - i) s) (k - i) (pos 0)
      ∙ get_or-take (512 - i) s (k - i) (pos 0) (omega arith)

  -- a part of the doubled vector
  pub shift_window : shift i s ≡ take 512 (drop (512 - i) (map neg_ℤ s ++ s))
  unfolding shift
  shift_window =
      let n = 512 - i in
      let front = drop n (map neg_ℤ s) in
      let long : length front + n ≡ 512 = omega (arith, length-drop n (map neg_ℤ s), length-map s neg_ℤ) in
      sym (ap₂ take (sym long) (drop-append-le n (map neg_ℤ s) s (omega (arith, length-map s neg_ℤ))) ∙ take-append-add front s n
      ∙ ap (λ (f : List ℤ). f ++ take n s) (sym (map-drop neg_ℤ n s)))

-- what holds of all entries of two vectors, place by place, and of turned signs, holds of all entries of their shifts
module _ (R : ℤ → ℤ → Type 0) (none : R (pos 0) (pos 0)) (turned : (y z : ℤ) → R y z → R (neg_ℤ y) (neg_ℤ z)) where
  pub shift_keeps : (s t : List ℤ) → length s ≡ 512 → length t ≡ 512 → ((k : ℕ) → R (get_or s k (pos 0)) (get_or t k (pos 0)))
      → (i k : ℕ) → i ≤ 512 → R (get_or (shift i s) k (pos 0)) (get_or (shift i t) k (pos 0))
  shift_keeps s t ls lt at i k h = pick (dec_lt k i) (dec_lt k 512)
    where
      pick : Dec (k < i) → Dec (k < 512) → R (get_or (shift i s) k (pos 0)) (get_or (shift i t) k (pos 0))
      pick (yes low) d = rw (shift_low i s ls k h low, shift_low i t lt k h low) (turned _ _ (at (512 - i + k)))
      pick (no high) (yes below) = rw (shift_high i s ls k (omega arith) below, shift_high i t lt k (omega arith) below) (at (k - i))
      pick (no high) (no beyond) =
          rw (
            get_or-eq_default (shift i s) (pos 0) {n = k} (omega (arith, length_shift i s)),
            get_or-eq_default (shift i t) (pos 0) {n = k} (omega (arith, length_shift i t)),
          ) none

-- ---- x over and over

-- x^0 changes nothing
pub shift_zero : (s : List ℤ) → length s ≡ 512 → shift 0 s ≡ s
unfolding shift
shift_zero s e = ap₂ ◌++◌ (ap (map neg_ℤ) (drop_of_length-le s {i = 512} (omega arith))) (take_all 512 s (omega arith))

-- x^(i + 1) is x times x^i
pub shift_suc : (i : ℕ) (s : List ℤ) → i < 512 → length s ≡ 512 → shift (suc i) s ≡ turnℤ (shift i s)
unfolding shift
shift_suc i s h e =
    let less : 512 - i ≡ suc (512 - suc i) = omega arith in
    rw less (turned_more neg_ℤ (pos 0) (512 - suc i) s (omega arith))
