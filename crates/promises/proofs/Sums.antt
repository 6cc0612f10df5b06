-- The sums that signer and checker round, modulo 2q: 12288 (a z1) + q c = u - z2, place by place. Assumes nothing.
use mathlib.Core.Path.{◌≡◌, refl, sym, ap, ap₂, ◌∙◌}
use mathlib.Core.Bool.{Bool, true, false}
use mathlib.Core.List.{List, [], ◌∷◌, map}
use Prim.Native.Nat.{ℕ, ◌*◌, ◌<◌}
use native.Mathlib.Omega.{arith}
use lib.Dec.{lit<}
use lib.IntN.{ℤ, pos, neg_ℤ, ◌+ℤ◌, ◌-ℤ◌, ◌*ℤ◌}
use lib.ListN
use lib.ListN.{length, get_or, length-map}
use Rattle.laws.specs.Integers.{residue}
use Rattle.laws.specs.Lists.{zip_with}
use Rattle.laws.proofs.Congruence.{Cong, cong_eq, cong_refl, cong_sym, cong_sub, cong_trans, residue_cong, residue_same}
use Rattle.laws.proofs.Entries.{length-zip_with, get_or-zip_with, get_or-map}
use Rattle.laws.proofs.Solver.{v, k, ◌⊕◌, ◌⊖◌, ◌⊗◌, neg, ring}
use Rattle.sets.specs.Numbers.{dimension, modulus, twice_modulus, factor}
use Rattle.polynomials.specs.Product.{product}
use Rattle.polynomials.proofs.Carries.{Carries, carries_product, carries_linear}
use Rattle.polynomials.proofs.Residues.{length_product}
use Rattle.rounding.specs.Rounding.{summed}
use Rattle.commitment.specs.Commitment.{sums}
use Rattle.choices.specs.Choices.{added_if}
use Rattle.choices.proofs.Pairs.{added_if_at}
use Rattle.choices.proofs.Sums.{added_if_linear}

-- ---- at one place, over whole numbers
-- t' = t + e modulo q, and e has the parity of c
module _ (t t' e c : ℤ) (carried : Cong modulus t' (t +ℤ e)) (parity : Cong 2 e c) (y : ℤ) where
  -- 12288 q is a multiple of 2q; 12288 e = q e - e, and q e = q c modulo 2q; q c + q c is a multiple of 2q
  sums_agree : Cong twice_modulus (pos factor *ℤ t' +ℤ pos modulus *ℤ c) (pos factor *ℤ t +ℤ y -ℤ (y +ℤ e))
  sums_agree =
      let m = carried.times in
      let r = parity.times in
      record {
        times = c +ℤ r +ℤ pos 6144 *ℤ m;
        eq = ap (λ (x : ℤ). pos factor *ℤ x +ℤ pos modulus *ℤ c) carried.eq
            ∙ ring (t ∷ e ∷ c ∷ m ∷ y ∷ []) (k (pos factor) ⊗ (v 0 ⊕ v 1 ⊕ k (pos modulus) ⊗ v 3) ⊕ k (pos modulus) ⊗ v 2)
            (k (pos factor) ⊗ v 0 ⊕ v 4 ⊖ (v 4 ⊕ v 1) ⊕ (k (pos modulus) ⊗ v 1 ⊕ k (pos modulus) ⊗ v 2 ⊕ k (pos twice_modulus) ⊗ (k (pos 6144) ⊗ v 3))) refl
            ∙ ap (λ (x : ℤ). pos factor *ℤ t +ℤ y -ℤ (y +ℤ e) +ℤ (pos modulus *ℤ x +ℤ pos modulus *ℤ c +ℤ pos twice_modulus *ℤ (pos 6144 *ℤ m))) parity.eq
            ∙ ring (t ∷ e ∷ c ∷ m ∷ y ∷ r ∷ [])
            (k (pos factor) ⊗ v 0 ⊕ v 4 ⊖ (v 4 ⊕ v 1) ⊕ (k (pos modulus) ⊗ (v 2 ⊕ k (pos 2) ⊗ v 5) ⊕ k (pos modulus) ⊗ v 2 ⊕ k (pos twice_modulus) ⊗ (k (pos 6144) ⊗ v 3)))
            (k (pos factor) ⊗ v 0 ⊕ v 4 ⊖ (v 4 ⊕ v 1) ⊕ k (pos twice_modulus) ⊗ (v 2 ⊕ v 5 ⊕ k (pos 6144) ⊗ v 3)) refl;
      }

-- the checker's sum is the signer's less z2, modulo 2q
summed_agree : (t t' : ℕ) (e c : ℤ) → Cong modulus (pos t') (pos t +ℤ e) → Cong 2 e c → (y : ℤ)
    → summed t' (pos modulus *ℤ c) ≡ residue twice_modulus (pos (summed t y) -ℤ (y +ℤ e))
unfolding summed
summed_agree t t' e c carried parity y =
    residue_same (lit< tt) (cong_trans (sums_agree (pos t) (pos t') e c carried parity y) (cong_sub (residue_cong (lit< tt) (pos (factor * t) +ℤ y)) (cong_refl (y +ℤ e))))

-- ---- either sign bit
-- y + v or y - v, as y plus something
added_if_as : (b : Bool) (x e : ℤ) → added_if b x e ≡ x +ℤ added_if b (pos 0) e
added_if_as true x e = ring (x ∷ e ∷ []) (v 0 ⊕ v 1) (v 0 ⊕ (k (pos 0) ⊕ v 1)) refl
added_if_as false x e = ring (x ∷ e ∷ []) (v 0 ⊖ v 1) (v 0 ⊕ (k (pos 0) ⊖ v 1)) refl

-- neither sign changes the parity
added_if_parity : (b : Bool) (e c : ℤ) → Cong 2 e c → Cong 2 (added_if b (pos 0) e) c
added_if_parity true e c h = cong_trans (cong_eq (ring (e ∷ []) (k (pos 0) ⊕ v 0) (v 0) refl)) h
added_if_parity false e c h =
    record {
      times = neg_ℤ (c +ℤ h.times);
      eq = ap (λ (x : ℤ). pos 0 -ℤ x) h.eq
          ∙ ring (c ∷ h.times ∷ []) (k (pos 0) ⊖ (v 0 ⊕ k (pos 2) ⊗ v 1)) (v 0 ⊕ k (pos 2) ⊗ neg (v 0 ⊕ v 1)) refl;
    }

-- ---- at one place of the vectors
module _ (i : ℕ) (inside : i < dimension) where
  -- a sum by its parts
  pub get_or_sums : (a : List ℕ) (x y : List ℤ) → length y ≡ dimension
      → get_or (sums a x y) i 0 ≡ summed (get_or (product a x) i 0) (get_or y i (pos 0))
  unfolding sums
  get_or_sums a x y ly = get_or-zip_with summed (product a x) y i 0 (pos 0) 0 (omega (arith, length_product a x)) (omega arith)

  module _ (a : List ℕ) (la : length a ≡ dimension) (b : Bool) (y1 y2 v1 v2 : List ℤ)
      (ly1 : length y1 ≡ dimension) (ly2 : length y2 ≡ dimension) (lv1 : length v1 ≡ dimension) (lv2 : length v2 ≡ dimension)
      (carries : Carries a v1 v2) where
    -- a z1 = a y1 + v2, or a y1 - v2, modulo q
    product_carried : Cong modulus (pos (get_or (product a (zip_with (added_if b) y1 v1)) i 0))
        (pos (get_or (product a y1) i 0) +ℤ added_if b (pos 0) (get_or v2 i (pos 0)))
    product_carried =
        let whole = zip_with (added_if b) (map pos (product a y1)) v2 in
        let long : length (map pos (product a y1)) ≡ dimension = length-map (product a y1) pos ∙ length_product a y1 in
        let same : length (map pos (product a y1)) ≡ length v2 = long ∙ sym lv2 in
        let at : get_or whole i (pos 0) ≡ pos (get_or (product a y1) i 0) +ℤ added_if b (pos 0) (get_or v2 i (pos 0)) =
        added_if_at b (map pos (product a y1)) v2 same i ∙ ap (λ x. added_if b x (get_or v2 i (pos 0))) (ListN.get_or-map pos (product a y1) i 0)
        ∙ added_if_as b (pos (get_or (product a y1) i 0)) (get_or v2 i (pos 0)) in
        let is : get_or (product a (zip_with (added_if b) y1 v1)) i 0 ≡ residue modulus (get_or whole i (pos 0)) =
        ap (λ (x : List ℕ). get_or x i 0) (carries_linear a la ly1 lv1 (carries_product a y1) carries (added_if_linear b)).is
        ∙ get_or-map (residue modulus) whole i (pos 0) 0 (omega (arith, length-zip_with (added_if b) (map pos (product a y1)) v2 same)) in
        cong_trans (cong_eq (ap pos is)) (cong_trans (cong_sym (residue_cong (lit< tt) (get_or whole i (pos 0)))) (cong_eq at))

    -- the checker's sum, with q c beside 12288 (a z1), is the signer's less z2, modulo 2q
    pub sums_at : (marks : List ℤ) (c : ℤ) → length marks ≡ dimension → get_or marks i (pos 0) ≡ pos modulus *ℤ c → Cong 2 (get_or v2 i (pos 0)) c
        → get_or (sums a (zip_with (added_if b) y1 v1) marks) i 0
        ≡ residue twice_modulus (pos (get_or (sums a y1 y2) i 0) -ℤ get_or (zip_with (added_if b) y2 v2) i (pos 0))
    sums_at marks c lm mark parity =
        get_or_sums a (zip_with (added_if b) y1 v1) marks lm
        ∙ ap (summed (get_or (product a (zip_with (added_if b) y1 v1)) i 0)) mark
        ∙ summed_agree (get_or (product a y1) i 0) _ (added_if b (pos 0) (get_or v2 i (pos 0))) c product_carried
        (added_if_parity b (get_or v2 i (pos 0)) c parity) (get_or y2 i (pos 0))
        ∙ ap₂ (λ (u : ℕ) (z : ℤ). residue twice_modulus (pos u -ℤ z)) (sym (get_or_sums a y1 y2 ly2))
        (sym (added_if_at b y2 v2 (ly2 ∙ sym lv2) i ∙ added_if_as b (get_or y2 i (pos 0)) (get_or v2 i (pos 0))))
