-- The sign choices are GreedySC, document 004, Algorithm 1, on the columns of S (demand 2). Assumes nothing.
use mathlib.Core.Path.{◌≡◌, refl, sym, ap, ◌∙◌}
use mathlib.Core.Bool.{Bool, true, false, cond}
use mathlib.Core.List.{List, [], ◌∷◌, ◌++◌}
use Prim.Native.Nat.{ℕ, suc}
use native.Mathlib.Nat.{suc_inj, suc-ne-zero}
use lib.IntN.{ℤ, pos, negsuc, ◌+ℤ◌, ◌-ℤ◌, ◌*ℤ◌}
use lib.ListN.{length, replicate-append-replicate}
use lib.Signed.{lt_z}
use Rattle.laws.specs.Lists.{zip_with}
use Rattle.laws.proofs.Entries.{zip_with-append}
use Rattle.laws.proofs.Solver.{v, k, ◌⊕◌, ◌⊖◌, ◌⊗◌, ring}
use Rattle.sets.specs.Numbers.{dimension}
use Rattle.vectors.specs.Vectors.{inner}
use Rattle.vectors.specs.Pairs.{Pair, pair, inner_pair}
use Rattle.choices.specs.Choices.{column, added_if, choice, chosen, choose_from, choices, zeros}
use Rattle.choices.proofs.Bound.{Short, short_zeros, short_chosen, sized_column}
use Rattle.choices.proofs.Pairs.{Sized}
use Rattle.promises.specs.Published.{scaled, sgn, greedy_from, columns, SignChoices}
use Rattle.promises.proofs.Published.{zip_scaled}

inner_append : (x x' y y' : List ℤ) → length x ≡ length y → inner (x ++ x') (y ++ y') ≡ inner x y +ℤ inner x' y'
unfolding inner
inner_append [] x' [] y' e = ring (inner x' y' ∷ []) (v 0) (k (pos 0) ⊕ v 0) refl
inner_append [] x' (b ∷ y) y' e = absurd (suc-ne-zero (length y) (sym e))
inner_append (a ∷ x) x' [] y' e = absurd (suc-ne-zero (length x) e)
inner_append (a ∷ x) x' (b ∷ y) y' e =
    ap (λ (z : ℤ). a *ℤ b +ℤ z) (inner_append x x' y y' (suc_inj e))
    ∙ ring ((a *ℤ b) ∷ inner x y ∷ inner x' y' ∷ []) (v 0 ⊕ (v 1 ⊕ v 2)) (v 0 ⊕ v 1 ⊕ v 2) refl

-- v ← v - ς s, at one place
step_is : (b : Bool) (x y : ℤ) → added_if b x y ≡ x -ℤ cond b (negsuc 0) (pos 1) *ℤ y
step_is true x y = ring (x ∷ y ∷ []) (v 0 ⊕ v 1) (v 0 ⊖ k (negsuc 0) ⊗ v 1) refl
step_is false x y = ring (x ∷ y ∷ []) (v 0 ⊖ v 1) (v 0 ⊖ k (pos 1) ⊗ v 1) refl

joined : Pair → List ℤ
joined w = w.first ++ w.second

-- lines 3 and 4
step_joined : (w c : Pair) → Sized w → Sized c → joined (chosen w c) ≡ zip_with ◌-ℤ◌ (joined w) (scaled (sgn (inner (joined w) (joined c))) (joined c))
unfolding joined chosen
step_joined w c hw hc =
    let same : length w.first ≡ length c.first = hw.first ∙ sym hc.first in
    sym (zip_with-append (choice w c) w.first w.second c.first c.second same)
    ∙ zip_scaled (choice w c) ◌-ℤ◌ (sgn (inner_pair w c)) (step_is (lt_z (inner_pair w c) (pos 0))) (joined w) (joined c)
    ∙ ap (λ (t : ℤ). zip_with ◌-ℤ◌ (joined w) (scaled (sgn t) (joined c))) (sym (inner_append w.first w.second c.first c.second same))

module _ (s : Pair) (key : Sized s) where
  loop_joined : (l : List ℕ) (n : ℕ) (w : Pair) → Short s n w → joined (choose_from s l w) ≡ greedy_from (columns s.first s.second) l (joined w)
  unfolding choose_from greedy_from joined
  loop_joined [] n w h = refl
  loop_joined (i ∷ l) n w h =
      loop_joined l (suc n) (chosen w (column i s)) (short_chosen s key i h)
      ∙ ap (greedy_from (columns s.first s.second) l) (step_joined w (column i s) h.sized (sized_column i s key))

pub sign_choices : SignChoices
unfolding choices joined
sign_choices s1 s2 l h1 h2 =
    let s = pair s1 s2 in
    loop_joined s (record { first = h1; second = h2 }) l 0 (pair zeros zeros) (short_zeros s)
    ∙ ap (greedy_from (columns s1 s2) l) (replicate-append-replicate dimension dimension (pos 0))
