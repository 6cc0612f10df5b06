-- The laws of sums and products of whole numbers that the library lacks: products distribute over sums and are associative. Assumes nothing.
use mathlib.Core.Path.{◌≡◌, sym, ◌∙◌, ap}
use Prim.Native.Nat.{zero, suc}
use lib.IntN.{ℤ, pos, negsuc, neg_ℤ, pred_ℤ, ◌+ℤ◌, ◌-ℤ◌, ◌*ℤ◌, +ℤ-suc_ℤ, +ℤ-pred_ℤ, +ℤ_idl, +ℤ_idr, +ℤ_assoc, +ℤ_comm, +ℤ_invr, +ℤ_invl, zero-*ℤ, suc_ℤ-*ℤ, pred_ℤ-*ℤ, *ℤ_comm}

-- ---- sums, regrouped
pub +ℤ_swap : (a b c : ℤ) → a +ℤ (b +ℤ c) ≡ b +ℤ (a +ℤ c)
+ℤ_swap a b c = sym (+ℤ_assoc a b c) ∙ ap (λ (z : ℤ). z +ℤ c) (+ℤ_comm a b) ∙ +ℤ_assoc b a c

-- (a + b) * c = a * c + b * c, by recursion on b
pub *ℤ_distr : (a b c : ℤ) → (a +ℤ b) *ℤ c ≡ a *ℤ c +ℤ b *ℤ c
*ℤ_distr a (pos zero) c = ap (λ (z : ℤ). z *ℤ c) (+ℤ_idr a) ∙ sym (+ℤ_idr (a *ℤ c)) ∙ ap (λ (z : ℤ). a *ℤ c +ℤ z) (sym (zero-*ℤ c))
*ℤ_distr a (pos (suc n)) c =
    ap (λ (z : ℤ). z *ℤ c) (+ℤ-suc_ℤ a (pos n)) ∙ suc_ℤ-*ℤ (a +ℤ pos n) c ∙ ap (λ (z : ℤ). z +ℤ c) (*ℤ_distr a (pos n) c)
    ∙ +ℤ_assoc (a *ℤ c) (pos n *ℤ c) c ∙ ap (λ (z : ℤ). a *ℤ c +ℤ z) (sym (suc_ℤ-*ℤ (pos n) c))
*ℤ_distr a (negsuc zero) c =
    ap (λ (z : ℤ). z *ℤ c) (+ℤ-pred_ℤ a (pos zero) ∙ ap pred_ℤ (+ℤ_idr a)) ∙ pred_ℤ-*ℤ a c
    ∙ ap (λ (z : ℤ). a *ℤ c +ℤ z) (sym (pred_ℤ-*ℤ (pos zero) c ∙ ap (λ (z : ℤ). z -ℤ c) (zero-*ℤ c) ∙ +ℤ_idl (neg_ℤ c)))
*ℤ_distr a (negsuc (suc n)) c =
    ap (λ (z : ℤ). z *ℤ c) (+ℤ-pred_ℤ a (negsuc n)) ∙ pred_ℤ-*ℤ (a +ℤ negsuc n) c ∙ ap (λ (z : ℤ). z -ℤ c) (*ℤ_distr a (negsuc n) c)
    ∙ +ℤ_assoc (a *ℤ c) (negsuc n *ℤ c) (neg_ℤ c) ∙ ap (λ (z : ℤ). a *ℤ c +ℤ z) (sym (pred_ℤ-*ℤ (negsuc n) c))

pub *ℤ_distl : (a b c : ℤ) → a *ℤ (b +ℤ c) ≡ a *ℤ b +ℤ a *ℤ c
*ℤ_distl a b c = *ℤ_comm a (b +ℤ c) ∙ *ℤ_distr b c a ∙ ap (λ (z : ℤ). z +ℤ c *ℤ a) (*ℤ_comm b a) ∙ ap (λ (z : ℤ). a *ℤ b +ℤ z) (*ℤ_comm c a)

-- - a = - 1 * a
pub neg_as : (a : ℤ) → neg_ℤ a ≡ negsuc zero *ℤ a
neg_as a = sym (pred_ℤ-*ℤ (pos zero) a ∙ ap (λ (z : ℤ). z -ℤ a) (zero-*ℤ a) ∙ +ℤ_idl (neg_ℤ a))

pub one_*ℤ : (a : ℤ) → pos 1 *ℤ a ≡ a
one_*ℤ a = suc_ℤ-*ℤ (pos zero) a ∙ ap (λ (z : ℤ). z +ℤ a) (zero-*ℤ a) ∙ +ℤ_idl a

cancel : (a b : ℤ) → a +ℤ b ≡ pos zero → a ≡ neg_ℤ b
cancel a b e = sym (+ℤ_idr a) ∙ ap (λ (z : ℤ). a +ℤ z) (sym (+ℤ_invr b)) ∙ sym (+ℤ_assoc a b (neg_ℤ b)) ∙ ap (λ (z : ℤ). z +ℤ neg_ℤ b) e ∙ +ℤ_idl (neg_ℤ b)

pub negℤ_*ℤ : (a b : ℤ) → neg_ℤ a *ℤ b ≡ neg_ℤ (a *ℤ b)
negℤ_*ℤ a b = cancel (neg_ℤ a *ℤ b) (a *ℤ b) (sym (*ℤ_distr (neg_ℤ a) a b) ∙ ap (λ (z : ℤ). z *ℤ b) (+ℤ_invl a) ∙ zero-*ℤ b)

-- (a * b) * c = a * (b * c), by recursion on a
pub *ℤ_assoc : (a b c : ℤ) → (a *ℤ b) *ℤ c ≡ a *ℤ (b *ℤ c)
*ℤ_assoc (pos zero) b c = ap (λ (z : ℤ). z *ℤ c) (zero-*ℤ b) ∙ zero-*ℤ c ∙ sym (zero-*ℤ (b *ℤ c))
*ℤ_assoc (pos (suc n)) b c =
    ap (λ (z : ℤ). z *ℤ c) (suc_ℤ-*ℤ (pos n) b) ∙ *ℤ_distr (pos n *ℤ b) b c ∙ ap (λ (z : ℤ). z +ℤ b *ℤ c) (*ℤ_assoc (pos n) b c)
    ∙ sym (suc_ℤ-*ℤ (pos n) (b *ℤ c))
*ℤ_assoc (negsuc zero) b c = ap (λ (z : ℤ). z *ℤ c) (sym (neg_as b)) ∙ negℤ_*ℤ b c ∙ neg_as (b *ℤ c)
*ℤ_assoc (negsuc (suc n)) b c =
    ap (λ (z : ℤ). z *ℤ c) (pred_ℤ-*ℤ (negsuc n) b) ∙ *ℤ_distr (negsuc n *ℤ b) (neg_ℤ b) c
    ∙ ap (λ (z : ℤ). z +ℤ neg_ℤ b *ℤ c) (*ℤ_assoc (negsuc n) b c) ∙ ap (λ (z : ℤ). negsuc n *ℤ (b *ℤ c) +ℤ z) (negℤ_*ℤ b c)
    ∙ sym (pred_ℤ-*ℤ (negsuc n) (b *ℤ c))

pub *ℤ_swap : (a b c : ℤ) → a *ℤ (b *ℤ c) ≡ b *ℤ (a *ℤ c)
*ℤ_swap a b c = sym (*ℤ_assoc a b c) ∙ ap (λ (z : ℤ). z *ℤ c) (*ℤ_comm a b) ∙ *ℤ_assoc b a c

pub *ℤ_cross : (a b c d : ℤ) → (a *ℤ b) *ℤ (c *ℤ d) ≡ (a *ℤ c) *ℤ (b *ℤ d)
*ℤ_cross a b c d = *ℤ_assoc a b (c *ℤ d) ∙ ap (λ (z : ℤ). a *ℤ z) (*ℤ_swap b c d) ∙ sym (*ℤ_assoc a c (b *ℤ d))
