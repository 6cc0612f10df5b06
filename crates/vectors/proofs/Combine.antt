-- A loop that rewrites v, entry by entry, by an operation with c: `*entry += c[i]`, and the same with -. Once for each operation whose result is no
-- larger than its two numbers together. Assumes nothing.
use mathlib.Core.Path.{◌≡◌, sym, ◌∙◌}
use mathlib.Core.List.{List}
use Prim.Native.Nat.{ℕ, ◌+◌, ◌^◌, ◌<◌, ◌≤◌}
use native.Mathlib.Omega.{arith}
use lib.IntN.{ℤ, pos, nat_abs}
use lib.ListN.{length, get_or, set as update}
use mir.Syntax.{Width}
use mir.Val.{SFits, hbits, to_z, of_z}
use Rattle.laws.specs.Lists.{zip_with}
use Rattle.laws.proofs.Entries.{length-zip_with, get_or-zip_with}
use Rattle.laws.proofs.Loops.{Rewritten, start, next_is, more, finish}
use Rattle.laws.proofs.Machine.{Reads, given, fits, operation_is}

module _ (o : ℤ → ℤ → ℤ) (v c : List ℤ) (same : length v ≡ length c) where
  long : length (zip_with o v c) ≡ length v
  long = length-zip_with o v c same

  pub combine_start : Rewritten v (zip_with o v c) 0 v
  combine_start = start v (zip_with o v c) long

  module _ {i : ℕ} {now : List ℤ} (so : Rewritten v (zip_with o v c) i now) where
    module _ (w : Width) (size : (x y : ℤ) → nat_abs (o x y) ≤ nat_abs x + nat_abs y) (h : i < length v)
        (room : nat_abs (get_or v i (pos 0)) + nat_abs (get_or c i (pos 0)) < 2 ^ hbits w) where
      old : Reads w (of_z w (get_or now i (pos 0))) (get_or v i (pos 0))
      old = rw (next_is v (zip_with o v c) long so (pos 0) h) (given (fits (omega arith)))

      other : Reads w (of_z w (get_or c i (pos 0))) (get_or c i (pos 0))
      other = given (fits (omega arith))

      small : SFits w (o (get_or v i (pos 0)) (get_or c i (pos 0)))
      small = fits (omega (arith, size (get_or v i (pos 0)) (get_or c i (pos 0))))

      pub combine_more : Rewritten v (zip_with o v c) (i + 1)
          (update now i (to_z w (of_z w (o (to_z w (of_z w (get_or now i (pos 0)))) (to_z w (of_z w (get_or c i (pos 0))))))))
      combine_more =
          more v (zip_with o v c) long so (pos 0) _ h
          ((operation_is old other o small).back ∙ sym (get_or-zip_with o v c i (pos 0) (pos 0) (pos 0) h (omega arith)))

    pub combine_finish : length v ≤ i → now ≡ zip_with o v c
    combine_finish h = finish v (zip_with o v c) long so h
