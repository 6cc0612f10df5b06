-- The numbers of the draw's trials. Assumes nothing.
use mathlib.Core.Path.{◌≡◌, refl}
use mathlib.Core.Bool.{Bool, true, not}
use mathlib.Core.List.{List}
use Prim.Native.Nat.{ℕ, ◌+◌, ◌*◌, ◌^◌, ◌<◌, ◌≤◌}
use native.Mathlib.Omega.{arith}
use lib.Dec.{lit≤}
use lib.IntN.{ℤ, pos, nat_abs, ◌+ℤ◌}
use lib.ListN.{length, get_or}
use Rattle.laws.specs.Lists.{zip_with}
use Rattle.laws.proofs.Bounds.{abs_add}
use Rattle.sets.specs.declared.Set.{Set}
use Rattle.sets.specs.Numbers.{dimension, mask_limit, places, kappa_of, key_limit_of}
use Rattle.sets.proofs.Alike.{first_trial_lem}
use Rattle.vectors.specs.Vectors.{squares, inner, sizes}
use Rattle.vectors.specs.Places.{proper_list}
use Rattle.vectors.proofs.Ranges.{within_wider}
use Rattle.vectors.proofs.Sums.{inner_le_sizes}
use Rattle.keys.specs.Key.{second}
use Rattle.keys.proofs.Ranges.{f_small, g_small}
use Rattle.keys.proofs.Second.{second_within}
use Rattle.commitment.specs.Commitment.{are_masks}
use Rattle.vectors.specs.Pairs.{Pair, pair}
use Rattle.choices.specs.Choices.{added_if, choices}
use Rattle.choices.proofs.Pairs.{Sized, Within}
use Rattle.masking.specs.Masking.{masked}
use Rattle.masking.proofs.Numbers.{first_mask, second_mask, z_within, sizes_z, trial_fits}
use Rattle.masking.proofs.Chosen.{chosen_sized, chosen_short, chosen_within}
use Rattle.promises.specs.Demands.{TrialsFit}
use Rattle.promises.proofs.Keys.{Tested, key_short, key_sized, passing}

module _ (s : Set) (f g : List ℤ) (a l : List ℕ) (key : Tested s f g a) (proper : proper_list s l ≡ true) where
  abbrev v : Pair
  v = choices (pair f (second g)) l

  key_512 : Sized (pair f (second g))
  key_512 = key_sized f g key.long_f key.long_g

  sized : Sized (pair v.first v.second)
  sized = chosen_sized s f (second g) l key_512.first key_512.second proper v.first v.second refl

  pub short : squares v.first + squares v.second ≤ kappa_of s * key_limit_of s
  short = chosen_short s f (second g) l key_512.first key_512.second proper v.first v.second refl (key_short s f g a key.proper)

  small : Within (kappa_of s * 5) (pair v.first v.second)
  small =
      chosen_within s f (second g) l key_512.first key_512.second proper v.first v.second refl
      (within_wider 2 5 f (lit≤ tt) (f_small f g a key.ranges))
      (second_within g (g_small f g a key.ranges))

  module _ (y1 y2 : List ℤ) (bit : Bool) (l1 : length y1 ≡ dimension) (l2 : length y2 ≡ dimension) (masks : are_masks y1 y2 ≡ true) where
    abbrev z1 : List ℤ
    z1 = zip_with (added_if (not bit)) y1 v.first

    abbrev z2 : List ℤ
    z2 = zip_with (added_if (not bit)) y2 v.second

    -- an entry of z2 is a mask's and at most 5 for each column
    pub z2_within : (k : ℕ) → nat_abs (get_or z2 k (pos 0)) ≤ mask_limit + 5 * kappa_of s
    z2_within = z_within s y2 v.second (second_mask y1 y2 masks) (λ k. omega (arith, small.second k)) l2 sized.second bit

    fits : sizes z1 v.first + sizes z2 v.second < 2 ^ 30
    fits =
        trial_fits s (sizes z1 v.first) (sizes z2 v.second) (squares v.first) (squares v.second)
        (sizes_z s y1 v.first (first_mask y1 y2 masks) (λ k. omega (arith, small.first k)) l1 sized.first bit)
        (sizes_z s y2 v.second (second_mask y1 y2 masks) (λ k. omega (arith, small.second k)) l2 sized.second bit)
        short

    pub second_fits : 2 * nat_abs (inner z1 v.first +ℤ inner z2 v.second) < 2 ^ places
    second_fits =
        omega (arith, abs_add (inner z1 v.first) (inner z2 v.second), inner_le_sizes z1 v.first, inner_le_sizes z2 v.second, fits)

pub trials_fit : TrialsFit
unfolding masked
trials_fit set s c h =
    let key = passing set s c h.asked h.key in
    let l = c.list in (
      short s c.f c.g c.a l key h.list,
      omega (arith, first_trial_lem s),
      second_fits s c.f c.g c.a l key h.list c.y1 c.y2 c.sign h.long_y1 h.long_y2 h.masks,
    )
