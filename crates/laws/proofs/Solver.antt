-- Equations of whole numbers that hold in every commutative ring: `ring values e f refl` shows that e and f are equal, where both are written with
-- `v i` for the i-th of the values and `k z` for a number. antt computes the normal form of each side, a sum of monomials, and compares the two. Assumes nothing.
use mathlib.Core.Path.{◌≡◌, refl, sym, ◌∙◌, ap}
use mathlib.Core.Bool.{Bool, true, false, not, cond}
use mathlib.Core.List.{List, [], ◌∷◌}
use Prim.Native.Nat.{ℕ, zero, suc}
use lib.Dec.{T, leb, ltb, eqb, eqb→eq}
use lib.ListN.{get_or}
use lib.IntN.{ℤ, pos, negsuc, neg_ℤ, ◌+ℤ◌, ◌-ℤ◌, ◌*ℤ◌, +ℤ_idl, +ℤ_idr, +ℤ_assoc, zero-*ℤ, *ℤ-zero, *ℤ_comm}
use Rattle.laws.proofs.Products.{+ℤ_swap, *ℤ_distr, *ℤ_distl, *ℤ_assoc, *ℤ_swap, *ℤ_cross, neg_as, one_*ℤ}

-- ---- expressions
infixl 6 ◌⊕◌ ◌⊖◌
infixl 7 ◌⊗◌
pub data Sum : Type 0 where
  v : ℕ → Sum
  k : ℤ → Sum
  ◌⊕◌ : Sum → Sum → Sum
  ◌⊖◌ : Sum → Sum → Sum
  ◌⊗◌ : Sum → Sum → Sum
  neg : Sum → Sum

abbrev pub ev : List ℤ → Sum → ℤ
ev ρ (v i) = get_or ρ i (pos 0)
ev ρ (k z) = z
ev ρ (e ⊕ f) = ev ρ e +ℤ ev ρ f
ev ρ (e ⊖ f) = ev ρ e -ℤ ev ρ f
ev ρ (e ⊗ f) = ev ρ e *ℤ ev ρ f
ev ρ (neg e) = neg_ℤ (ev ρ e)

-- ---- normal forms
pub data Poly : Type 0 where
  nil : Poly
  term : ℤ → List ℕ → Poly → Poly

abbrev ins_m : ℕ → List ℕ → List ℕ
ins_m i [] = i ∷ []
ins_m i (j ∷ m) = cond (leb i j) (i ∷ j ∷ m) (j ∷ ins_m i m)

abbrev mul_m : List ℕ → List ℕ → List ℕ
mul_m [] n = n
mul_m (i ∷ m) n = ins_m i (mul_m m n)

abbrev eq_m : List ℕ → List ℕ → Bool
eq_m [] [] = true
eq_m [] (j ∷ n) = false
eq_m (i ∷ m) [] = false
eq_m (i ∷ m) (j ∷ n) = cond (eqb i j) (eq_m m n) false

-- any total order serves: nothing is proved of it
abbrev lt_m : List ℕ → List ℕ → Bool
lt_m [] [] = false
lt_m [] (j ∷ n) = true
lt_m (i ∷ m) [] = false
lt_m (i ∷ m) (j ∷ n) = cond (eqb i j) (lt_m m n) (ltb i j)

abbrev keep : ℤ → List ℕ → Poly → Poly
keep (pos zero) m p = p
keep (pos (suc c)) m p = term (pos (suc c)) m p
keep (negsuc c) m p = term (negsuc c) m p

abbrev add_t : ℤ → List ℕ → Poly → Poly
add_t c m nil = keep c m nil
add_t c m (term d n p) = cond (eq_m m n) (keep (c +ℤ d) n p) (cond (lt_m m n) (term c m (term d n p)) (term d n (add_t c m p)))

abbrev add_p : Poly → Poly → Poly
add_p nil q = q
add_p (term c m p) q = add_t c m (add_p p q)

abbrev mul_t : ℤ → List ℕ → Poly → Poly
mul_t c m nil = nil
mul_t c m (term d n p) = add_t (c *ℤ d) (mul_m m n) (mul_t c m p)

abbrev mul_p : Poly → Poly → Poly
mul_p nil q = nil
mul_p (term c m p) q = add_p (mul_t c m q) (mul_p p q)

abbrev pub norm : Sum → Poly
norm (v i) = term (pos 1) (i ∷ []) nil
norm (k z) = keep z [] nil
norm (e ⊕ f) = add_p (norm e) (norm f)
norm (e ⊖ f) = add_p (norm e) (mul_t (negsuc 0) [] (norm f))
norm (e ⊗ f) = mul_p (norm e) (norm f)
norm (neg e) = mul_t (negsuc 0) [] (norm e)

-- ---- what they stand for
cond_ind {ℓ} : {A : Type ℓ} (c : Bool) (x y : A) (P : A → Type 0) → (T c → P x) → (T (not c) → P y) → P (cond c x y)
cond_ind true x y P f g = f tt
cond_ind false x y P f g = g tt

eq_m_eq : (m n : List ℕ) → T (eq_m m n) → m ≡ n
eq_m_eq [] [] t = refl
eq_m_eq [] (j ∷ n) t = absurd t
eq_m_eq (i ∷ m) [] t = absurd t
eq_m_eq (i ∷ m) (j ∷ n) t = both (eqb i j) (eqb→eq i j) (eq_m_eq m n) t
  where
    both : (b : Bool) → (T b → i ≡ j) → (T (eq_m m n) → m ≡ n) → T (cond b (eq_m m n) false) → i ∷ m ≡ j ∷ n
    both true f g t = ap (λ (x : ℕ). x ∷ m) (f tt) ∙ ap (λ (x : List ℕ). j ∷ x) (g t)
    both false f g t = absurd t

module _ (ρ : List ℤ) where
  abbrev ev_m : List ℕ → ℤ
  ev_m [] = pos 1
  ev_m (i ∷ m) = get_or ρ i (pos 0) *ℤ ev_m m

  abbrev ev_p : Poly → ℤ
  ev_p nil = pos 0
  ev_p (term c m p) = c *ℤ ev_m m +ℤ ev_p p

  ins_m_ok : (i : ℕ) (m : List ℕ) → ev_m (ins_m i m) ≡ get_or ρ i (pos 0) *ℤ ev_m m
  ins_m_ok i [] = refl
  ins_m_ok i (j ∷ m) = cond_ind (leb i j) (i ∷ j ∷ m) (j ∷ ins_m i m) (λ (l : List ℕ). ev_m l ≡ get_or ρ i (pos 0) *ℤ (get_or ρ j (pos 0) *ℤ ev_m m))
      (λ t. refl)
      (λ t. ap (λ (z : ℤ). get_or ρ j (pos 0) *ℤ z) (ins_m_ok i m) ∙ *ℤ_swap (get_or ρ j (pos 0)) (get_or ρ i (pos 0)) (ev_m m))

  mul_m_ok : (m n : List ℕ) → ev_m (mul_m m n) ≡ ev_m m *ℤ ev_m n
  mul_m_ok [] n = sym (one_*ℤ (ev_m n))
  mul_m_ok (i ∷ m) n = ins_m_ok i (mul_m m n) ∙ ap (λ (z : ℤ). get_or ρ i (pos 0) *ℤ z) (mul_m_ok m n) ∙ sym (*ℤ_assoc (get_or ρ i (pos 0)) (ev_m m) (ev_m n))

  keep_ok : (c : ℤ) (m : List ℕ) (p : Poly) → ev_p (keep c m p) ≡ c *ℤ ev_m m +ℤ ev_p p
  keep_ok (pos zero) m p = sym (ap (λ (z : ℤ). z +ℤ ev_p p) (zero-*ℤ (ev_m m)) ∙ +ℤ_idl (ev_p p))
  keep_ok (pos (suc c)) m p = refl
  keep_ok (negsuc c) m p = refl

  add_t_ok : (c : ℤ) (m : List ℕ) (p : Poly) → ev_p (add_t c m p) ≡ c *ℤ ev_m m +ℤ ev_p p
  add_t_ok c m nil = keep_ok c m nil
  add_t_ok c m (term d n p) = cond_ind (eq_m m n) (keep (c +ℤ d) n p) (cond (lt_m m n) (term c m (term d n p)) (term d n (add_t c m p)))
      (λ (q : Poly). ev_p q ≡ c *ℤ ev_m m +ℤ (d *ℤ ev_m n +ℤ ev_p p))
      (λ t. keep_ok (c +ℤ d) n p ∙ ap (λ (z : ℤ). z +ℤ ev_p p) (*ℤ_distr c d (ev_m n)) ∙ +ℤ_assoc (c *ℤ ev_m n) (d *ℤ ev_m n) (ev_p p)
      ∙ ap (λ (l : List ℕ). c *ℤ ev_m l +ℤ (d *ℤ ev_m n +ℤ ev_p p)) (sym (eq_m_eq m n t)))
      (λ t. cond_ind (lt_m m n) (term c m (term d n p)) (term d n (add_t c m p)) (λ (q : Poly). ev_p q ≡ c *ℤ ev_m m +ℤ (d *ℤ ev_m n +ℤ ev_p p))
      (λ u. refl)
      (λ u. ap (λ (z : ℤ). d *ℤ ev_m n +ℤ z) (add_t_ok c m p) ∙ +ℤ_swap (d *ℤ ev_m n) (c *ℤ ev_m m) (ev_p p)))

  add_p_ok : (p q : Poly) → ev_p (add_p p q) ≡ ev_p p +ℤ ev_p q
  add_p_ok nil q = sym (+ℤ_idl (ev_p q))
  add_p_ok (term c m p) q = add_t_ok c m (add_p p q) ∙ ap (λ (z : ℤ). c *ℤ ev_m m +ℤ z) (add_p_ok p q) ∙ sym (+ℤ_assoc (c *ℤ ev_m m) (ev_p p) (ev_p q))

  mul_t_ok : (c : ℤ) (m : List ℕ) (p : Poly) → ev_p (mul_t c m p) ≡ (c *ℤ ev_m m) *ℤ ev_p p
  mul_t_ok c m nil = sym (*ℤ-zero (c *ℤ ev_m m))
  mul_t_ok c m (term d n p) =
      add_t_ok (c *ℤ d) (mul_m m n) (mul_t c m p) ∙ ap (λ (z : ℤ). (c *ℤ d) *ℤ z +ℤ ev_p (mul_t c m p)) (mul_m_ok m n)
      ∙ ap (λ (z : ℤ). z +ℤ ev_p (mul_t c m p)) (*ℤ_cross c d (ev_m m) (ev_m n)) ∙ ap (λ (z : ℤ). (c *ℤ ev_m m) *ℤ (d *ℤ ev_m n) +ℤ z) (mul_t_ok c m p)
      ∙ sym (*ℤ_distl (c *ℤ ev_m m) (d *ℤ ev_m n) (ev_p p))

  mul_p_ok : (p q : Poly) → ev_p (mul_p p q) ≡ ev_p p *ℤ ev_p q
  mul_p_ok nil q = sym (zero-*ℤ (ev_p q))
  mul_p_ok (term c m p) q =
      add_p_ok (mul_t c m q) (mul_p p q) ∙ ap (λ (z : ℤ). z +ℤ ev_p (mul_p p q)) (mul_t_ok c m q) ∙ ap (λ (z : ℤ). (c *ℤ ev_m m) *ℤ ev_p q +ℤ z) (mul_p_ok p q)
      ∙ sym (*ℤ_distr (c *ℤ ev_m m) (ev_p p) (ev_p q))

  neg_p_ok : (p : Poly) → ev_p (mul_t (negsuc 0) [] p) ≡ neg_ℤ (ev_p p)
  neg_p_ok p = mul_t_ok (negsuc 0) [] p ∙ sym (neg_as (ev_p p))

  norm_ok : (e : Sum) → ev_p (norm e) ≡ ev ρ e
  norm_ok (v i) = +ℤ_idr _ ∙ one_*ℤ _ ∙ *ℤ_comm (get_or ρ i (pos 0)) (pos 1) ∙ one_*ℤ (get_or ρ i (pos 0))
  norm_ok (k z) = keep_ok z [] nil ∙ +ℤ_idr (z *ℤ pos 1) ∙ *ℤ_comm z (pos 1) ∙ one_*ℤ z
  norm_ok (e ⊕ f) = add_p_ok (norm e) (norm f) ∙ ap (λ (z : ℤ). z +ℤ ev_p (norm f)) (norm_ok e) ∙ ap (λ (z : ℤ). ev ρ e +ℤ z) (norm_ok f)
  norm_ok (e ⊖ f) =
      add_p_ok (norm e) (mul_t (negsuc 0) [] (norm f)) ∙ ap (λ (z : ℤ). z +ℤ ev_p (mul_t (negsuc 0) [] (norm f))) (norm_ok e)
      ∙ ap (λ (z : ℤ). ev ρ e +ℤ z) (neg_p_ok (norm f) ∙ ap neg_ℤ (norm_ok f))
  norm_ok (e ⊗ f) = mul_p_ok (norm e) (norm f) ∙ ap (λ (z : ℤ). z *ℤ ev_p (norm f)) (norm_ok e) ∙ ap (λ (z : ℤ). ev ρ e *ℤ z) (norm_ok f)
  norm_ok (neg e) = neg_p_ok (norm e) ∙ ap neg_ℤ (norm_ok e)

  pub ring : (e f : Sum) → norm e ≡ norm f → ev ρ e ≡ ev ρ f
  ring e f h = sym (norm_ok e) ∙ ap ev_p h ∙ norm_ok f
