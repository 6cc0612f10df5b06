use mathlib.Core.Path.{◌≡◌}
use mathlib.Core.List.{List, ◌++◌}
use Prim.Native.Nat.{ℕ}
use lib.IntN.{ℤ}
use lib.ListN.{drop}
use Rattle.sets.specs.declared.Set.{Set}
use Rattle.sets.specs.Numbers.{kappa_of}
use Rattle.record_forms.specs.declared.Form.{Form}
use Rattle.records.specs.Signatures.{signature_in}
use Rattle.records.proofs.unpack.Goals as goal

module _ (form told : Form) (s : Set) (rec : List ℕ) (e : form ≡ told) where
  told_read : (z1 z2 : List ℤ) (list old : List ℕ)
      → (z1 ≡ (signature_in told s rec).z1) × (z2 ≡ (signature_in told s rec).z2) × (list ≡ (signature_in told s rec).list ++ drop (kappa_of s) old)
      → (z1 ≡ (signature_in form s rec).z1) × (z2 ≡ (signature_in form s rec).z2) × (list ≡ (signature_in form s rec).list ++ drop (kappa_of s) old)
  told_read z1 z2 list old h = rw e h

pub returns-in-Plain : goal.returns-in-Plain
returns-in-Plain c =
    told_read c.args.form _ c.args.s c.args.rec.now c.in-Plain.is _ _ _ c.args.held.now.list c.unpack.ensures

pub returns-in-Packed : goal.returns-in-Packed
returns-in-Packed c =
    told_read c.args.form _ c.args.s c.args.rec.now c.in-Packed.is _ _ _ c.args.held.now.list c.unpack-in-Packed.ensures
