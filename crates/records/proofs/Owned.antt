-- A lent `&[u8]` is bytes: in every model of the logic, what a call owns of it, with a token of its lifetime, updates to itself with that fact. It is the
-- logic's own law of a lent slice (`shs_known`), at bytes. Assumes `Logic`, as that law does.
use mathlib.Core.Path.{◌≡◌}
use mathlib.Core.Bool.{true}
use mathlib.Core.List.{List, [], ◌∷◌}
use Prim.Native.Nat.{ℕ}
use lib.ListN.{get_or}
use seplogic.Ra.Ura.{Ura}
use mir.Syntax.{w8}
use mir.Val.{Fits}
use mir.Facts.{Fits-lit}
use base.Logic.{ent, sep, guard}
use base.Fml.{Lft, Share, flft}
use types.Logic.{Logic, sem}
use types.Kit.{◌$◌, !, ‵, ◌⊛◌, qed, use2, given, learn, check, split, later, await, updating, now, done}
use borrow.Author.Tests.{lt-ltb}
use borrow.Table.Referent.{f_int}
use borrow.Rule.Slice.Shared.{OwnH}
use borrow.Rule.Slice.Know.{AllWt, fit_at, shs_known}
use Rattle.laws.specs.Lists.{every}
use Rattle.laws.proofs.Entries.{every_of}
use Rattle.byte_codes.specs.Bytes.{is_byte}

pub fit_bytes : (xs : List ℕ) → ((k : ℕ) → Fits w8 (get_or xs k 0)) → every is_byte xs ≡ true
fit_bytes xs fit = every_of is_byte xs 0 (λ k h. lt-ltb _ _ (fit k).fits)

module _ {M : Type 1} {𝓤 : Ura M} (𝓛 : Logic 𝓤) (κ : Lft) (q : Share) (b o : ℕ) where
  open 𝓛 use {H, A}

  pub owned_bytes : (xs : List ℕ) → ent 𝓤 (sep 𝓤 (sem 𝓛 (OwnH 𝓛 (f_int w8) κ q b o xs)) (A.lft κ q))
      (H.⇛ (guard 𝓤 (every is_byte xs ≡ true) (sep 𝓤 (sem 𝓛 (OwnH 𝓛 (f_int w8) κ q b o xs)) (A.lft κ q))))
  owned_bytes xs =
      qed 𝓛 (‵ (OwnH 𝓛 (f_int w8) κ q b o xs) ∷ ‵ (flft κ q) ∷ []) {P = H.⇛ (guard 𝓤 (every is_byte xs ≡ true) (sep 𝓤 (sem 𝓛 (OwnH 𝓛 (f_int w8) κ q b o xs)) (A.lft κ q)))} (
      updating ! $ use2 𝓛 (later (given (AllWt (f_int w8) xs) (‵ (OwnH 𝓛 (f_int w8) κ q b o xs) ⊛ ‵ (flft κ q)))) (shs_known 𝓛 (f_int w8) κ q b o xs) $
      await ! tt $ learn ! (λ a. now ! $ check ! (fit_bytes xs (fit_at (f_int w8) 0 (Fits-lit tt) xs a)) $ split ! $ done !))
