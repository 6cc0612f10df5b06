-- The sizes that the response meets: entries of z fit, and the second trial's number has no place above 30. Assumes nothing.
use mathlib.Core.Path.{◌≡◌, sym, ◌∙◌}
use mathlib.Core.Bool.{Bool, true, not}
use mathlib.Core.List.{List}
use Prim.Native.Nat.{ℕ, ◌+◌, ◌*◌, ◌^◌, ◌<◌, ◌≤◌}
use native.Mathlib.Nat.{mul-le-mul_left, mul-add}
use native.Mathlib.Omega.{arith}
use lib.IntN.{ℤ, pos, nat_abs}
use lib.ListN.{length, get_or}
use Rattle.laws.specs.Lists.{every, zip_with}
use Rattle.laws.proofs.Bounds.{le_square}
use Rattle.laws.proofs.Chain.{and_left, and_right}
use Rattle.sets.specs.declared.Set.{Set}
use Rattle.sets.specs.Numbers.{dimension, mask_limit, kappa_of, key_limit_of}
use Rattle.sets.proofs.Alike.{kappa_within, second_trial_lem}
use Rattle.vectors.specs.Vectors.{squares, sizes}
use Rattle.vectors.proofs.Lengths.{sizes_le_times}
use Rattle.vectors.proofs.Ranges.{within_at}
use Rattle.commitment.specs.Commitment.{is_mask, are_masks}
use Rattle.choices.specs.Choices.{added_if}
use Rattle.choices.proofs.Pairs.{added_if_within}

module _ (y1 y2 : List ℤ) (masks : are_masks y1 y2 ≡ true) where
  pub first_mask : (k : ℕ) → nat_abs (get_or y1 k (pos 0)) ≤ mask_limit
  unfolding are_masks
  first_mask = within_at mask_limit y1 (and_left (every is_mask y1) (every is_mask y2) masks)

  pub second_mask : (k : ℕ) → nat_abs (get_or y2 k (pos 0)) ≤ mask_limit
  unfolding are_masks
  second_mask = within_at mask_limit y2 (and_right (every is_mask y1) (every is_mask y2) masks)

-- one half: a mask y and a half v of the sign choices
module _ (s : Set) (y v : List ℤ) (small : (k : ℕ) → nat_abs (get_or y k (pos 0)) ≤ mask_limit) (short : (k : ℕ) → nat_abs (get_or v k (pos 0)) ≤ 5 * kappa_of s) where
  pub sum_fits : (k : ℕ) → nat_abs (get_or y k (pos 0)) + nat_abs (get_or v k (pos 0)) < 32768
  sum_fits k = omega (arith, small k, short k, kappa_within s)

  module _ (ly : length y ≡ dimension) (lv : length v ≡ dimension) (bit : Bool) where
    -- this half of z
    abbrev z : List ℤ
    z = zip_with (added_if (not bit)) y v

    pub z_within : (k : ℕ) → nat_abs (get_or z k (pos 0)) ≤ mask_limit + 5 * kappa_of s
    z_within k = added_if_within (not bit) y v (ly ∙ sym lv) k mask_limit (5 * kappa_of s) (small k) (short k)

    pub sizes_z : sizes z v ≤ (mask_limit + 5 * kappa_of s) * squares v
    sizes_z = sizes_le_times (mask_limit + 5 * kappa_of s) z v z_within

-- both halves
pub trial_fits : (s : Set) (n1 n2 q1 q2 : ℕ) → n1 ≤ (mask_limit + 5 * kappa_of s) * q1 → n2 ≤ (mask_limit + 5 * kappa_of s) * q2
    → q1 + q2 ≤ kappa_of s * key_limit_of s → n1 + n2 < 2 ^ 30
trial_fits s n1 n2 q1 q2 h1 h2 h =
    let b = mask_limit + 5 * kappa_of s in
    omega (arith, mul-add b q1 q2, mul-le-mul_left b h, second_trial_lem s)

-- and the sum that the second trial takes of y and v fits, with the squared length of v
pub trial_sums : (s : Set) (n1 n2 q1 q2 : ℕ) → n1 ≤ mask_limit * q1 → n2 ≤ mask_limit * q2 → q1 + q2 ≤ kappa_of s * key_limit_of s → n1 + n2 + (q1 + q2) < 2 ^ 30
trial_sums s n1 n2 q1 q2 h1 h2 h = omega (arith, mul-le-mul_left (key_limit_of s) (le_square (kappa_of s)), second_trial_lem s)
