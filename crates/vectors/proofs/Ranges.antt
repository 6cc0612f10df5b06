-- Vectors whose entries all lie in a range. Assumes nothing.
use mathlib.Core.Path.{◌≡◌}
use mathlib.Core.Bool.{true}
use mathlib.Core.List.{List}
use Prim.Native.Nat.{ℕ, ◌≤◌}
use native.Mathlib.Nat.{le_trans}
use borrow.Author.Tests.{leb-true, le-leb}
use lib.Dec.{leb-zero}
use lib.IntN.{ℤ, pos, nat_abs}
use lib.ListN.{get_or}
use Rattle.laws.specs.Lists.{every}
use Rattle.laws.proofs.Entries.{every_anywhere, every_of}
use Rattle.vectors.specs.Vectors.{within}

module _ (bound : ℕ) (x : List ℤ) where
  pub within_at : every (within bound) x ≡ true → (k : ℕ) → nat_abs (get_or x k (pos 0)) ≤ bound
  within_at e k = leb-true (nat_abs (get_or x k (pos 0))) bound (every_anywhere (within bound) x k (pos 0) e (leb-zero bound))

  pub within_of : ((k : ℕ) → nat_abs (get_or x k (pos 0)) ≤ bound) → every (within bound) x ≡ true
  within_of h = every_of (within bound) x (pos 0) (λ k j. le-leb (nat_abs (get_or x k (pos 0))) bound (h k))

pub within_wider : (bound wider : ℕ) (x : List ℤ) → bound ≤ wider → every (within bound) x ≡ true → every (within wider) x ≡ true
within_wider bound wider x h e = within_of wider x (λ k. le_trans (within_at bound x e k) h)
