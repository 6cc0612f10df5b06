-- The parity of v2, where s2 = 2g + 1: odd at the listed places and even elsewhere, as c' is. Assumes nothing.
use mathlib.Core.Path.{◌≡◌, refl, ap}
use mathlib.Core.Bool.{true, false}
use mathlib.Core.List.{List}
use Prim.Native.Nat.{ℕ, ◌<◌}
use native.Mathlib.Omega.{arith}
use lib.IntN.{ℤ, pos, negsuc, nat_abs}
use lib.ListN.{length, get_or, length-replicate}
use Rattle.laws.specs.Lists.{every}
use Rattle.laws.proofs.Congruence.{Cong, cong_eq, cong_refl, cong_neg, cong_trans}
use Rattle.sets.specs.Numbers.{dimension}
use Rattle.polynomials.specs.Product.{one}
use Rattle.polynomials.proofs.One.{length-one}
use Rattle.polynomials.proofs.Operations.{linear_cong}
use Rattle.polynomials.proofs.Shift.{shift_keeps}
use Rattle.vectors.specs.Places.{is_place, rising, listed}
use Rattle.vectors.specs.Pairs.{Pair}
use Rattle.choices.specs.Choices.{choices, zeros}
use Rattle.choices.specs.Signs.{signed_sum, signs}
use Rattle.choices.proofs.Pairs.{Sized}
use Rattle.choices.proofs.Sums.{choices_sums, added_if_linear, added_if-length, column_at, sums_keep}
use Rattle.choices.proofs.Places.{signs_listed, signs_elsewhere}

-- 1 and -1 are odd
odd : (z : ℤ) → nat_abs z ≡ 1 → Cong 2 z (pos 1)
odd (pos n) e = cong_eq (ap pos e)
odd (negsuc n) e =
    let last : n ≡ 0 = omega arith in
    rw last (record { times = negsuc 0; eq = refl })

module _ (s : Pair) (key : Sized s) (l : List ℕ) (places : every is_place l ≡ true) where
  -- signed sums of congruent vectors are congruent
  sum_cong : (m : ℕ) (t u : List ℤ) → length t ≡ dimension → length u ≡ dimension
      → ((k : ℕ) → Cong m (get_or t k (pos 0)) (get_or u k (pos 0)))
      → (k : ℕ) → Cong m (get_or (signed_sum s l t) k (pos 0)) (get_or (signed_sum s l u) k (pos 0))
  sum_cong m t u lt lu c k =
      (sums_keep t u (λ n x y. (length x ≡ dimension) × (length y ≡ dimension) × Cong m (get_or x k (pos 0)) (get_or y k (pos 0)))
      (λ b n i x y h r. (
        added_if-length b i x t r.0 lt,
        added_if-length b i y u r.1 lu,
        rw (column_at b i x t r.0 lt k, column_at b i y u r.1 lu k)
            (linear_cong (added_if_linear b) r.2 (shift_keeps (Cong m) (cong_refl (pos 0)) (λ y z d. cong_neg d) t u lt lu c i k (omega arith))),
      )) s l places (length-replicate dimension (pos 0), length-replicate dimension (pos 0), cong_refl (get_or zeros k (pos 0)))).2

  module _ (parity : (k : ℕ) → Cong 2 (get_or s.second k (pos 0)) (get_or one k (pos 0))) where
    -- v2 = c' modulo 2
    pub choices_parity : (k : ℕ) → Cong 2 (get_or (choices s l).second k (pos 0)) (get_or (signs s l) k (pos 0))
    unfolding signs
    choices_parity k = rw (choices_sums s l) (sum_cong 2 s.second one key.second length-one parity k)

    module _ (k : ℕ) (inside : k < dimension) where
      -- v2 is odd at the listed places of a list that rises
      pub choices_odd : rising l ≡ true → listed l k ≡ true → Cong 2 (get_or (choices s l).second k (pos 0)) (pos 1)
      choices_odd r n = cong_trans (choices_parity k) (odd _ (signs_listed s l places k inside r n))

      -- and even elsewhere
      pub choices_even : listed l k ≡ false → Cong 2 (get_or (choices s l).second k (pos 0)) (pos 0)
      choices_even n = cong_trans (choices_parity k) (cong_eq (signs_elsewhere s l places k inside n))
