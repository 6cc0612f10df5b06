-- The quarters of two pairs, as chunks that come one after the other. Assumes nothing.
use mathlib.Core.Path.{◌≡◌, sym, ap, ap₂, ◌∙◌}
use mathlib.Core.List.{List, ◌++◌}
use Prim.Native.Nat.{ℕ, ◌+◌, ◌*◌, ◌<◌, ◌≤◌}
use native.Mathlib.Omega.{arith}
use lib.IntN.{ℤ}
use lib.ListN.{length, take, drop, length-append, length-drop}
use lib.Seq.{drop-drop, take-append_seam, drop-append_seam}
use Rattle.sets.specs.Numbers.{dimension}
use Rattle.vectors.specs.Pairs.{Pair}
use Rattle.choices.proofs.Quarters.{part, Gathered, front}

-- after n quarters: what is left of each, and what is gathered
pub record Chunks (bound : ℕ) (v c : Pair) (v1 c1 v2 c2 : List ℤ) (w x y z : ℕ) (sums : List ℤ) : Type 0 where
  pub n : ℕ
  pub sizes : (w ≡ 128) × (x ≡ 128) × (y ≡ 128) × (z ≡ 128)
  pub rests : (v1 ≡ drop (128 * n) v.first) × (c1 ≡ drop (128 * n) c.first) × (v2 ≡ drop (128 * n) v.second) × (c2 ≡ drop (128 * n) c.second)
  pub upto : n ≤ 4
  pub gathered : Gathered bound (2 * n) (front v c (128 * n)) sums

module _ (v x rest rest' : List ℤ) (n size : ℕ) (lv : length v ≡ dimension) (is : rest ≡ drop (128 * n) v) (of : size ≡ 128) (e : rest ≡ x ++ rest') (lx : length x ≡ size) where
  pub below : n < 4
  below = omega (arith, ap length is, length-drop (128 * n) v, ap length e, length-append x rest')

  pub chunk_is : x ≡ part (128 * n) v
  chunk_is = sym (take-append_seam x rest') ∙ ap₂ take (lx ∙ of) (sym e ∙ is)

  pub rest_is : rest' ≡ drop (128 * (n + 1)) v
  rest_is =
      let m : 128 * n + 128 ≡ 128 * (n + 1) = omega arith in
      sym (drop-append_seam x rest') ∙ ap₂ drop (lx ∙ of) (sym e ∙ is) ∙ drop-drop 128 (128 * n) v ∙ ap (λ (k : ℕ). drop k v) m

-- no chunk is left after four
pub ended : (v rest : List ℤ) (n size : ℕ) → length v ≡ dimension → rest ≡ drop (128 * n) v → size ≡ 128 → length rest < size → 4 ≤ n
ended v rest n size lv is of less = omega (arith, ap length is, length-drop (128 * n) v)
