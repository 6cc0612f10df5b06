-- Adding z2 dagger modulo p to the upper digits of u - z2 gives the upper digits of u. Assumes nothing.
use mathlib.Core.Path.{◌≡◌, refl}
use mathlib.Core.List.{[], ◌∷◌}
use Prim.Native.Nat.{ℕ}
use lib.IntN.{ℤ, pos, ◌-ℤ◌}
use Rattle.laws.specs.Integers.{residue}
use Rattle.laws.proofs.Congruence.{cong_eq, cong_refl, cong_sym, cong_add, cong_trans, residue_is}
use Rattle.laws.proofs.Solver.{v, ◌⊕◌, ◌⊖◌, ring}
use Rattle.sets.specs.declared.Set.{Set}
use Rattle.sets.specs.Numbers.{twice_modulus}
use Rattle.sets.proofs.Alike.{p_positive}
use Rattle.rounding.specs.Rounding.{upper, dagger, restored}
use Rattle.rounding.proofs.Laws.{upper_below, centred_cong}

module _ (s : Set) where
  -- the digits that the checker restores are the digits that the signer rounded
  pub restored_dagger : (u : ℕ) (z : ℤ) → restored s (residue twice_modulus (pos u -ℤ z)) (dagger s u z) ≡ upper s u
  unfolding restored dagger
  restored_dagger u z =
      let w = residue twice_modulus (pos u -ℤ z) in
      residue_is (p_positive s)
      (cong_trans (cong_add (cong_refl (pos (upper s w))) (cong_sym (centred_cong s (pos (upper s u) -ℤ pos (upper s w)))))
      (cong_eq (ring (pos (upper s w) ∷ pos (upper s u) ∷ []) (v 0 ⊕ (v 1 ⊖ v 0)) (v 1) refl))) (upper_below s u)
