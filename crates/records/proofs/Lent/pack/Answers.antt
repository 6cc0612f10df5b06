use mathlib.Core.Path.{◌≡◌, ap, ◌∙◌}
use Prim.Native.Nat.{ℕ, ◌*◌, ◌-◌, ◌≤◌}
use native.Mathlib.Omega.{arith}
use Rattle.sets.specs.declared.Set.{Set}
use Rattle.sets.specs.Numbers.{dimension, list_limit, kappa_of}
use Rattle.sets.proofs.Alike.{kappa_within}
use Rattle.bit_codes.specs.Bits.{bytes_for, packed_bits}
use Rattle.record_forms.specs.declared.Form.{Form}
use Rattle.record_forms.specs.Forms.{z1_bits_of, z2_bits_of, list_bits_of, z1_offset, z2_offset_of, list_offset_of, total_of}
use Rattle.record_forms.proofs.Forms.{z2_after_z1, list_after_z2}
use Rattle.records.specs.Signatures.{signature}
use Rattle.records.proofs.Buffers.{proper_length}
use Rattle.records.proofs.Back.{z1_small, z2_small, list_small}
use Rattle.records.proofs.Forms.{pieces}
use Rattle.records.proofs.Lent.pack.Goals as goal

module _ (form : Form) (s : Set) (z2 list total : ℕ) (p : z2 ≡ z2_offset_of form) (q : list ≡ list_offset_of form) (t : total ≡ total_of form s) where
  z1_room : (n : ℕ) → n ≡ z2 - z1_offset → n ≡ bytes_for (z1_bits_of form * dimension)
  z1_room n e = omega (arith, z2_after_z1 form)

  z2_room : (n : ℕ) → n ≡ list - z2 → n ≡ bytes_for (z2_bits_of form * dimension)
  z2_room n e = omega (arith, list_after_z2 form)

  list_room : (n : ℕ) → n ≡ total - list → (l : ℕ) → l ≡ kappa_of s → n ≡ bytes_for (list_bits_of form * l)
  list_room n e l h = rw h (omega arith)

few : (n : ℕ) (s : Set) → n ≡ kappa_of s → n ≤ list_limit
few n s e = omega (arith, kappa_within s)

pub pack_z1-requires : goal.pack_z1-requires
pack_z1-requires c = (
  z1_small c.args.form (signature c.args.self.now.set c.args.self.now.key c.args.self.now.z1.now c.args.self.now.z2.now c.args.self.now.list.now) c.requires.0,
  z1_room c.args.form c.args.self.now.set _ _ _ c.z2_offset-z2_at.ensures c.list_offset-list_at.ensures c.total-total.ensures _ (omega arith),
)

pub pack_z2-requires : goal.pack_z2-requires
pack_z2-requires c = (
  z2_small c.args.form (signature c.args.self.now.set c.args.self.now.key c.args.self.now.z1.now c.args.self.now.z2.now c.args.self.now.list.now) c.requires.0,
  z2_room c.args.form c.args.self.now.set _ _ _ c.z2_offset-z2_at.ensures c.list_offset-list_at.ensures c.total-total.ensures _ (omega arith),
)

pub pack_list-requires : goal.pack_list-requires
pack_list-requires c =
    let g = signature c.args.self.now.set c.args.self.now.key c.args.self.now.z1.now c.args.self.now.z2.now c.args.self.now.list.now in (
      few _ c.args.self.now.set (proper_length g c.requires.0),
      list_small c.args.form g c.requires.0,
      list_room c.args.form c.args.self.now.set _ _ _ c.z2_offset-z2_at.ensures c.list_offset-list_at.ensures c.total-total.ensures _ (omega arith) _ (proper_length g c.requires.0),
    )

pub returns : goal.returns
returns c =
    let g = signature c.args.self.now.set c.args.self.now.key c.args.self.now.z1.now c.args.self.now.z2.now c.args.self.now.list.now in
    pieces c.args.form g c.args.out.now _ _ _ _ _ _ _
    c.put_header.ensures c.pack_z1.ensures c.pack_z2.ensures
    (c.pack_list.ensures ∙ ap (λ (m : ℕ). packed_bits (list_bits_of c.args.form) m c.args.self.now.list.now) (proper_length g c.requires.0))
    c.z2_offset-z2_at.ensures c.list_offset-list_at.ensures c.total-total.ensures
