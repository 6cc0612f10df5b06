-- The two halves of a vector: a loop that rewrites an entry of each.
-- Assumes nothing.
use mathlib.Core.Path.{◌≡◌, ap₂, sym, ◌∙◌}
use mathlib.Core.List.{List}
use Prim.Native.Nat.{ℕ, ◌+◌, ◌<◌, ◌≤◌}
use native.Mathlib.Omega.{arith}
use lib.ListN.{length, set as update, get_or}
use Rattle.laws.specs.Lists.{zip_with}
use Rattle.laws.proofs.Entries.{length-zip_with, get_or-zip_with}
use Rattle.laws.proofs.Loops as L
use Rattle.ring.specs.Transform.{Within}

-- of the entries x and y at each place below i of two vectors, f x y and g x y are made
pub record Passed (f g : ℕ → ℕ → ℕ) (xs ys : List ℕ) (i : ℕ) (xs' ys' : List ℕ) : Type 0 where
  pub first : L.Rewritten xs (zip_with f xs ys) i xs'
  pub second : L.Rewritten ys (zip_with g xs ys) i ys'

module _ (f g : ℕ → ℕ → ℕ) (xs ys : List ℕ) (two : length xs ≡ length ys) where
  as_first : length (zip_with f xs ys) ≡ length xs
  as_first = length-zip_with f xs ys two

  as_second : length (zip_with g xs ys) ≡ length ys
  as_second = length-zip_with g xs ys two ∙ two

  pub start : Passed f g xs ys 0 xs ys
  start = record { first = L.start xs (zip_with f xs ys) as_first; second = L.start ys (zip_with g xs ys) as_second }

  module _ {i : ℕ} {xs' ys' : List ℕ} (so : Passed f g xs ys i xs' ys') where
    module _ (p : i < length xs) where
      -- the entries that are rewritten next are as they were
      first_is : get_or xs' i 0 ≡ get_or xs i 0
      first_is = L.next_is xs (zip_with f xs ys) as_first so.first 0 p

      second_is : get_or ys' i 0 ≡ get_or ys i 0
      second_is = L.next_is ys (zip_with g xs ys) as_second so.second 0 (omega arith)

      -- and within what bound they were
      pub within : (b : ℕ) → Within b xs → Within b ys → (get_or xs' i 0 ≤ b) × (get_or ys' i 0 ≤ b)
      within b p q = (omega (arith, first_is, p i), omega (arith, second_is, q i))

      made_at : (k : ℕ → ℕ → ℕ) → k (get_or xs' i 0) (get_or ys' i 0) ≡ get_or (zip_with k xs ys) i 0
      made_at k = ap₂ k first_is second_is ∙ sym (get_or-zip_with k xs ys i 0 0 0 p (omega arith))

      pub more : (x y : ℕ) → x ≡ f (get_or xs' i 0) (get_or ys' i 0) → y ≡ g (get_or xs' i 0) (get_or ys' i 0)
          → Passed f g xs ys (i + 1) (update xs' i x) (update ys' i y)
      more x y ex ey =
          record {
            first = L.more xs (zip_with f xs ys) as_first so.first 0 x p (ex ∙ made_at f);
            second = L.more ys (zip_with g xs ys) as_second so.second 0 y (omega arith) (ey ∙ made_at g);
          }

    pub finish : length xs ≤ i → (xs' ≡ zip_with f xs ys) × (ys' ≡ zip_with g xs ys)
    finish p = (L.finish xs (zip_with f xs ys) as_first so.first p, L.finish ys (zip_with g xs ys) as_second so.second (omega arith))
