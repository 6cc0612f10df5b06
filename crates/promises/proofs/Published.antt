-- The definitions, which follow paper 01, are the published ones: document 004, Algorithms 2, 3 and 5 (demand 2). Assumes nothing.
use mathlib.Core.Path.{◌≡◌, refl, sym, ap, ap₂, ◌∙◌}
use mathlib.Core.Bool.{Bool, true, false, not, cond}
use mathlib.Core.List.{List, [], ◌∷◌, map}
use Prim.Native.Nat.{ℕ, zero, suc, ◌*◌, ◌-◌, ◌^◌, ◌<◌, ◌≤◌}
use native.Mathlib.Omega.{arith}
use borrow.Author.Tests.{le-leb}
use lib.Dec.{lit<}
use lib.IntN.{ℤ, pos, negsuc, nat_abs, ◌+ℤ◌, ◌*ℤ◌}
use lib.ListN
use lib.ListN.{length, get_or, length-map}
use lib.Seq.{ext_get_or}
use Rattle.laws.specs.Integers.{residue, sumℤ}
use Rattle.laws.specs.Lists.{zip_with}
use Rattle.laws.proofs.Congruence.{Cong, cong_eq, cong_refl, cong_add, cong_sym, cong_trans, residue_same, residue_cong_of}
use Rattle.laws.proofs.Entries.{length-zip_with, get_or-zip_with, get_or-map, length-tabulate, get_or-tabulate}
use Rattle.laws.proofs.Solver.{v, k, ◌⊕◌, ◌⊖◌, ◌⊗◌, ring}
use Rattle.sets.specs.Numbers.{dimension, modulus, twice_modulus, factor, d_of, largest_of}
use Rattle.answers.specs.Outcomes.{Outcome, Done, number_of}
use Rattle.answers.proofs.Calls.{zero_is}
use Rattle.polynomials.specs.Product.{wrapped, coefficient, times, product, one}
use Rattle.polynomials.proofs.Carries.{Carries}
use Rattle.polynomials.proofs.One.{length-one}
use Rattle.polynomials.proofs.Residues.{times_cong_product, product_at}
use Rattle.polynomials.proofs.Times.{length_times}
use Rattle.rounding.specs.Rounding.{summed}
use Rattle.vectors.specs.Places.{listed}
use Rattle.limits.specs.LengthRule.{entries, length_rule}
use Rattle.limits.proofs.Rule.{first_within, second_within, sum_within}
use Rattle.keys.specs.Key.{second, key_test}
use Rattle.keys.proofs.Second.{length_second}
use Rattle.commitment.specs.Commitment.{sums}
use Rattle.commitment.proofs.Sums.{length_sums}
use Rattle.vectors.specs.Pairs.{pair}
use Rattle.choices.specs.Choices.{added_if}
use Rattle.masking.specs.Masking.{masked}
use Rattle.checking.specs.Checking.{marks}
use Rattle.checking.proofs.Marks.{length_marks, get_or_marks}
use Rattle.promises.specs.Published.{scaled, vector_sum, modulo2q, zeta, ZetaInverts, a₁, KeyEquation, CommitmentSum, challenge, RebuildSum, minus_one_to, SignBit, LengthRules}
use Rattle.promises.proofs.Keys.{key_tested_some, key_carries, second_parity}
use Rattle.promises.proofs.Sums.{get_or_sums}

pub zeta_inverts : ZetaInverts
zeta_inverts = refl

-- ---- a₁ b = 2 a b
sum_scaled : (x : ℤ) (f g : ℕ → ℤ) → ((i : ℕ) → f i ≡ x *ℤ g i) → (n : ℕ) → sumℤ f n ≡ x *ℤ sumℤ g n
unfolding sumℤ
sum_scaled x f g h zero = ring (x ∷ []) (k (pos 0)) (v 0 ⊗ k (pos 0)) refl
sum_scaled x f g h (suc n) =
    ap₂ ◌+ℤ◌ (h 0) (sum_scaled x (λ i. f (suc i)) (λ i. g (suc i)) (λ i. h (suc i)) n)
    ∙ ring (x ∷ g 0 ∷ sumℤ (λ i. g (suc i)) n ∷ []) (v 0 ⊗ v 1 ⊕ v 0 ⊗ v 2) (v 0 ⊗ (v 1 ⊕ v 2)) refl

module _ (a : List ℕ) (b : List ℤ) (i : ℕ) (inside : i < dimension) where
  double_at : get_or (times (a₁ a) b) i (pos 0) ≡ pos 2 *ℤ get_or (times (map pos a) b) i (pos 0)
  unfolding times coefficient
  double_at =
      get_or-tabulate (coefficient (a₁ a) b) dimension i (pos 0) inside
      ∙ sum_scaled (pos 2) (λ j. get_or (a₁ a) j (pos 0) *ℤ wrapped b j i) (λ j. get_or (map pos a) j (pos 0) *ℤ wrapped b j i) each dimension
      ∙ ap (λ (x : ℤ). pos 2 *ℤ x) (sym (get_or-tabulate (coefficient (map pos a) b) dimension i (pos 0) inside))
    where
      each : (j : ℕ) → get_or (a₁ a) j (pos 0) *ℤ wrapped b j i ≡ pos 2 *ℤ (get_or (map pos a) j (pos 0) *ℤ wrapped b j i)
      each j =
          ap (λ (x : ℤ). x *ℤ wrapped b j i) (ListN.get_or-map (λ x. pos (2 * x)) a j 0 ∙ ap (λ (x : ℤ). pos 2 *ℤ x) (sym (ListN.get_or-map pos a j 0)))
          ∙ ring (get_or (map pos a) j (pos 0) ∷ wrapped b j i ∷ []) (k (pos 2) ⊗ v 0 ⊗ v 1) (k (pos 2) ⊗ (v 0 ⊗ v 1)) refl

  -- ζ a₁ b = 12288 t modulo 2q, where t = a b modulo q: 2 ζ = 12288 + 2q, and 2 ζ q is a multiple of 2q
  zeta_at : Cong twice_modulus (pos zeta *ℤ get_or (times (a₁ a) b) i (pos 0)) (pos (factor * get_or (product a b) i 0))
  zeta_at =
      let t = pos (get_or (product a b) i 0) in
      let c = times_cong_product a b i in
      record {
        times = t +ℤ pos zeta *ℤ c.times;
        eq = ap (λ (x : ℤ). pos zeta *ℤ x) (double_at ∙ ap (λ (x : ℤ). pos 2 *ℤ x) c.eq)
            ∙ ring (t ∷ c.times ∷ []) (k (pos zeta) ⊗ (k (pos 2) ⊗ (v 0 ⊕ k (pos modulus) ⊗ v 1)))
            (k (pos factor) ⊗ v 0 ⊕ k (pos twice_modulus) ⊗ (v 0 ⊕ k (pos zeta) ⊗ v 1)) refl;
      }

-- ---- vectors modulo 2q, place by place
is_modulo2q : (r : List ℕ) (x : List ℤ) → length r ≡ dimension → length x ≡ dimension
    → ((i : ℕ) → i < dimension → get_or r i 0 ≡ residue twice_modulus (get_or x i (pos 0))) → r ≡ modulo2q x
is_modulo2q r x lr lx h =
    ext_get_or 0 r (modulo2q x) (lr ∙ sym (length-map x (residue twice_modulus) ∙ lx))
    (λ i j.
    let inside : i < dimension = omega arith in
    h i inside ∙ sym (get_or-map (residue twice_modulus) x i (pos 0) 0 (omega arith)))

modulo2q_same : (x y : List ℤ) → length x ≡ dimension → length y ≡ dimension
    → ((i : ℕ) → i < dimension → Cong twice_modulus (get_or x i (pos 0)) (get_or y i (pos 0))) → modulo2q x ≡ modulo2q y
modulo2q_same x y lx ly h =
    is_modulo2q (modulo2q x) y (length-map x (residue twice_modulus) ∙ lx) ly
    (λ i j. get_or-map (residue twice_modulus) x i (pos 0) 0 (omega arith) ∙ residue_same (lit< tt) (h i j))

length-vector_sum : (x y : List ℤ) → length x ≡ dimension → length y ≡ dimension → length (vector_sum x y) ≡ dimension
length-vector_sum x y lx ly = length-zip_with ◌+ℤ◌ x y (lx ∙ sym ly) ∙ lx

length_scaled : (x : ℤ) (y : List ℤ) → length y ≡ dimension → length (scaled x y) ≡ dimension
length_scaled x y ly = length-map y (λ z. x *ℤ z) ∙ ly

vector_sum_at : (x y : List ℤ) → length x ≡ dimension → length y ≡ dimension → (i : ℕ) → i < dimension
    → get_or (vector_sum x y) i (pos 0) ≡ get_or x i (pos 0) +ℤ get_or y i (pos 0)
vector_sum_at x y lx ly i h = get_or-zip_with ◌+ℤ◌ x y i (pos 0) (pos 0) (pos 0) (omega arith) (omega arith)

scaled_at : (x : ℤ) (y : List ℤ) → length y ≡ dimension → (i : ℕ) → i < dimension → get_or (scaled x y) i (pos 0) ≡ x *ℤ get_or y i (pos 0)
scaled_at x y ly i h = get_or-map (λ z. x *ℤ z) y i (pos 0) (pos 0) (omega arith)

-- ---- Algorithms 2 and 5: the sums
-- 12288 t + y modulo 2q is ζ a₁ x + y' modulo 2q, where y = y' modulo 2q
sums_published : (a : List ℕ) (x y y' : List ℤ) → length y ≡ dimension → length y' ≡ dimension
    → ((i : ℕ) → i < dimension → Cong twice_modulus (get_or y i (pos 0)) (get_or y' i (pos 0)))
    → sums a x y ≡ modulo2q (vector_sum (scaled (pos zeta) (times (a₁ a) x)) y')
unfolding summed
sums_published a x y y' ly ly' same =
    let long = length_scaled (pos zeta) (times (a₁ a) x) (length_times (a₁ a) x) in
    is_modulo2q (sums a x y) (vector_sum (scaled (pos zeta) (times (a₁ a) x)) y') (length_sums a x y ly) (length-vector_sum (scaled (pos zeta) (times (a₁ a) x)) y' long ly')
    (λ i h.
    get_or_sums i h a x y ly
    ∙ residue_same (lit< tt)
    (cong_trans (cong_add (cong_sym (zeta_at a x i h)) (same i h))
    (cong_eq (sym (vector_sum_at (scaled (pos zeta) (times (a₁ a) x)) y' long ly' i h
    ∙ ap (λ (z : ℤ). z +ℤ get_or y' i (pos 0)) (scaled_at (pos zeta) (times (a₁ a) x) (length_times (a₁ a) x) i h))))))

pub commitment_sum : CommitmentSum
commitment_sum a y1 y2 ly2 = sums_published a y1 y2 y2 ly2 ly2 (λ i h. cong_refl (get_or y2 i (pos 0)))

-- q c = ζ q c modulo 2q, since ζ is odd
mark_at : (l : List ℕ) (i : ℕ) → i < dimension → Cong twice_modulus (get_or (marks l) i (pos 0)) (get_or (scaled (pos (zeta * modulus)) (challenge l)) i (pos 0))
mark_at l i h =
    cong_trans (cong_eq (get_or_marks l i h))
    (cong_trans (pick (listed l i))
    (cong_eq (sym (scaled_at (pos (zeta * modulus)) (challenge l) (length-tabulate here dimension) i h
    ∙ ap (λ (x : ℤ). pos (zeta * modulus) *ℤ x) (get_or-tabulate here dimension i (pos 0) h)))))
  where
    here : ℕ → ℤ
    here j = cond (listed l j) (pos 1) (pos 0)

    pick : (b : Bool) → Cong twice_modulus (cond b (pos modulus) (pos 0)) (pos (zeta * modulus) *ℤ cond b (pos 1) (pos 0))
    pick true = cong_sym (record { times = pos 9216; eq = refl })
    pick false = cong_refl (pos 0)

pub rebuild_sum : RebuildSum
rebuild_sum a z1 l =
    sums_published a z1 (marks l) (scaled (pos (zeta * modulus)) (challenge l)) (length_marks l)
    (length_scaled (pos (zeta * modulus)) (challenge l) (length-tabulate (λ i. cond (listed l i) (pos 1) (pos 0)) dimension)) (mark_at l)

-- ---- Algorithm 3: the key
-- 2 t + (q - 2) s = q c modulo 2q, where t = s modulo q and s = c modulo 2
key_place : (t s c : ℤ) → Cong modulus t s → Cong 2 s c → Cong twice_modulus (pos 2 *ℤ t +ℤ pos (modulus - 2) *ℤ s) (pos modulus *ℤ c)
key_place t s c h j =
    record {
      times = h.times +ℤ j.times;
      eq = ap (λ (x : ℤ). pos 2 *ℤ x +ℤ pos (modulus - 2) *ℤ s) h.eq
          ∙ ring (s ∷ h.times ∷ []) (k (pos 2) ⊗ (v 0 ⊕ k (pos modulus) ⊗ v 1) ⊕ k (pos (modulus - 2)) ⊗ v 0)
          (k (pos modulus) ⊗ v 0 ⊕ k (pos twice_modulus) ⊗ v 1) refl
          ∙ ap (λ (x : ℤ). pos modulus *ℤ x +ℤ pos twice_modulus *ℤ h.times) j.eq
          ∙ ring (c ∷ h.times ∷ j.times ∷ []) (k (pos modulus) ⊗ (v 0 ⊕ k (pos 2) ⊗ v 2) ⊕ k (pos twice_modulus) ⊗ v 1)
          (k (pos modulus) ⊗ v 0 ⊕ k (pos twice_modulus) ⊗ (v 1 ⊕ v 2)) refl;
    }

-- a vector that a carries to s is s modulo q, place by place
carried_at : (a : List ℕ) (x s : List ℤ) → Carries a x s → length s ≡ dimension → (i : ℕ) → i < dimension
    → Cong modulus (get_or (times (map pos a) x) i (pos 0)) (get_or s i (pos 0))
carried_at a x s h ls i j =
    residue_cong_of (lit< tt)
    (sym (product_at a x i) ∙ ap (λ (r : List ℕ). get_or r i 0) h.is ∙ get_or-map (residue modulus) s i (pos 0) 0 (omega arith))

pub key_equation : KeyEquation
key_equation set f g a passes =
    let some = key_tested_some set f g a (zero_is (key_test set f g a) passes) in
    let key = some.2 in
    let left = times (a₁ a) f in
    let right = scaled (pos (modulus - 2)) (second g) in
    let ls = length_second g ∙ key.long_g in
    let ll = length_times (a₁ a) f in
    let lr = length_scaled (pos (modulus - 2)) (second g) ls in
    modulo2q_same (vector_sum left right) (scaled (pos modulus) one) (length-vector_sum left right ll lr) (length_scaled (pos modulus) one length-one)
    (λ i h.
    cong_trans (cong_eq (vector_sum_at left right ll lr i h ∙ ap₂ ◌+ℤ◌ (double_at a f i h) (scaled_at (pos (modulus - 2)) (second g) ls i h)))
    (cong_trans
    (key_place (get_or (times (map pos a) f) i (pos 0)) (get_or (second g) i (pos 0)) (get_or one i (pos 0))
    (carried_at a f (second g) (key_carries some.0 f g a key.proper) ls i h) (second_parity g key.long_g i))
    (cong_eq (sym (scaled_at (pos modulus) one length-one i h)))))

-- ---- Algorithm 2, line 6
-- an operation on two vectors as a sum with a multiple of the second
pub zip_scaled : (o p : ℤ → ℤ → ℤ) (m : ℤ) → ((x y : ℤ) → o x y ≡ p x (m *ℤ y)) → (x y : List ℤ) → zip_with o x y ≡ zip_with p x (scaled m y)
unfolding zip_with
zip_scaled o p m h [] y = refl
zip_scaled o p m h (x ∷ xs) [] = refl
zip_scaled o p m h (x ∷ xs) (y ∷ ys) = ap₂ ◌∷◌ (h x y) (zip_scaled o p m h xs ys)

bit_is : (bit : Bool) (x y : ℤ) → added_if (not bit) x y ≡ x +ℤ minus_one_to bit *ℤ y
bit_is false x y = ring (x ∷ y ∷ []) (v 0 ⊕ v 1) (v 0 ⊕ k (pos 1) ⊗ v 1) refl
bit_is true x y = ring (x ∷ y ∷ []) (v 0 ⊖ v 1) (v 0 ⊕ k (negsuc 0) ⊗ v 1) refl

pub sign_bit : SignBit
unfolding masked
sign_bit bit y w =
    ap₂ pair (zip_scaled (added_if (not bit)) ◌+ℤ◌ (minus_one_to bit) (bit_is bit) y.first w.first)
    (zip_scaled (added_if (not bit)) ◌+ℤ◌ (minus_one_to bit) (bit_is bit) y.second w.second)

-- ---- Algorithm 5, lines 1 and 2
entries_pass : (limit factor place : ℕ) (x : List ℤ) (next : Outcome) → ((i : ℕ) → factor * nat_abs (get_or x i (pos 0)) ≤ limit)
    → entries limit factor place x next ≡ next
unfolding entries
entries_pass limit factor place [] next h = refl
entries_pass limit factor place (y ∷ x) next h = rw (le-leb _ _ (h 0)) (entries_pass limit factor (suc place) x next (λ i. h (suc i)))

pub length_rules : LengthRules
unfolding length_rule
length_rules s z1 z2 = (
  λ passes. let kept = zero_is (length_rule s z1 z2) passes in (sum_within s z1 z2 kept, first_within s z1 z2 kept, second_within s z1 z2 kept),
  λ rules.
      let done : length_rule s z1 z2 ≡ Done =
      entries_pass (largest_of s) 1 0 z1 _ (λ i. omega (arith, rules.1 i))
      ∙ entries_pass (largest_of s) (2 ^ d_of s) dimension z2 _ rules.2
      ∙ rw (le-leb _ _ rules.0) in
      ap number_of done,
)
