-- What a loop over the places has done once it has passed k of them. Assumes nothing.
use mathlib.Core.Path.{◌≡◌, refl, sym, ap, ◌∙◌}
use mathlib.Core.Bool.{true}
use mathlib.Core.List.{List}
use Prim.Native.Nat.{ℕ, ◌+◌, ◌*◌, ◌<◌, ◌≤◌}
use native.Mathlib.Numerals.{add-one}
use native.Mathlib.Omega.{arith}
use lib.ListN.{length, get_or, drop, drop_of_length-le}
use lib.Seq.{drop-cons}
use Rattle.laws.specs.Lists.{every}
use Rattle.sets.specs.Numbers.{dimension, list_limit}
use Rattle.vectors.specs.Vectors.{within}
use Rattle.vectors.proofs.Ranges.{within_of}
use Rattle.vectors.specs.Pairs.{Pair, pair}
use Rattle.choices.specs.Choices.{column, chosen, choose_from, choices, zeros}
use Rattle.choices.proofs.Pairs.{Sized, Within}
use Rattle.choices.proofs.Bound.{Short, short_zeros, short_chosen}
use Rattle.choices.proofs.Sums.{within_zeros, within_chosen}

-- v stands for the first k places, and the others are left
pub record Walked (s : Pair) (l : List ℕ) (k : ℕ) (v : Pair) : Type 0 where
  pub short : Short s k v
  pub entries : (bound : ℕ) → Within bound s → Within (k * bound) v
  pub left : choices s l ≡ choose_from s (drop k l) v

module _ (s : Pair) (l : List ℕ) where
  -- no place yet
  pub walk_start : Walked s l 0 (pair zeros zeros)
  unfolding choices
  walk_start = record { short = short_zeros s; entries = λ bound small. within_zeros (0 * bound); left = refl }

  module _ {k : ℕ} {v : Pair} (so : Walked s l k v) where
    -- one place more
    pub walk_more : Sized s → k < length l → get_or l k 0 < dimension → Walked s l (k + 1) (chosen v (column (get_or l k 0) s))
    unfolding choose_from
    walk_more key h place =
        record {
          short = rw add-one (short_chosen s key (get_or l k 0) so.short);
          entries = λ bound small. rw add-one (within_chosen s key bound small (get_or l k 0) place k v so.short.sized (so.entries bound small));
          left = so.left ∙ rw (drop-cons l k 0 h, add-one k);
        }

    -- all places
    pub walk_end : length l ≤ k → v ≡ choices s l
    unfolding choose_from
    walk_end h = sym (so.left ∙ ap (λ (r : List ℕ). choose_from s r v) (drop_of_length-le l h))

-- ---- as many columns as any list has, of entries of at most 5
pub walk_room : (s : Pair) → Within 5 s → {l : List ℕ} {k : ℕ} {v : Pair} → Walked s l k v → k ≤ list_limit
    → (every (within (list_limit * 5)) v.first ≡ true) × (every (within (list_limit * 5)) v.second ≡ true)
walk_room s small {v = v} so h =
    let e = so.entries 5 small in
    (within_of (list_limit * 5) v.first (λ j. omega (arith, e.first j)), within_of (list_limit * 5) v.second (λ j. omega (arith, e.second j)))
