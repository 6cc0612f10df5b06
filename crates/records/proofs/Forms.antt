-- The record of a signature in either form: the lengths of its sections, and the record written piece after piece. Assumes nothing.
use mathlib.Core.Path.{◌≡◌, refl}
use mathlib.Core.List.{List, ◌++◌, map}
use Prim.Native.Nat.{ℕ, ◌-◌}
use native.Mathlib.Omega.{arith}
use borrow.Rule.Slice.PartMut.{put_mid}
use lib.ListN.{length, drop, length-append}
use Rattle.sets.specs.Numbers.{dimension, kappa_of}
use Rattle.byte_codes.specs.Bytes.{complement}
use Rattle.bit_codes.proofs.Digits.{length_packed}
use Rattle.record_forms.specs.declared.Form.{Form}
use Rattle.record_forms.specs.Forms.{z1_bits_of, z2_bits_of, list_bits_of, z1_offset, z2_offset_of, list_offset_of, total_of}
use Rattle.record_forms.specs.Headers.{header_of}
use Rattle.record_forms.proofs.Forms.{z2_after_z1, list_after_z2, z2_after, list_after, after_list}
use Rattle.record_forms.proofs.KeyNumbers.{header_long}
use Rattle.record_forms.proofs.Pieces.{piece}
use Rattle.records.specs.Signatures.{Signature, z1_bytes, z2_bytes, list_bytes, record_of}

-- a signature of the right lengths
pub record Sized (g : Signature) : Type 0 where
  pub z1_long : length g.z1 ≡ dimension
  pub z2_long : length g.z2 ≡ dimension
  pub list_long : length g.list ≡ kappa_of g.set

module _ (form : Form) (g : Signature) where
  -- what stands before each section, and the whole
  pub upto_z1 : length (header_of form g.set g.key) ≡ z1_offset
  upto_z1 = header_long form g.set g.key

  pub upto_z2 : length (header_of form g.set g.key ++ z1_bytes form g) ≡ z2_offset_of form
  upto_z2 = rw length-append (omega (arith, upto_z1, length_packed (z1_bits_of form) dimension (map (complement (z1_bits_of form)) g.z1), z2_after_z1 form))

  pub upto_list : length ((header_of form g.set g.key ++ z1_bytes form g) ++ z2_bytes form g) ≡ list_offset_of form
  upto_list = rw length-append (omega (arith, upto_z2, length_packed (z2_bits_of form) dimension (map (complement (z2_bits_of form)) g.z2), list_after_z2 form))

  pub upto_end : length (((header_of form g.set g.key ++ z1_bytes form g) ++ z2_bytes form g) ++ list_bytes form g) ≡ total_of form g.set
  upto_end = rw length-append (omega (arith, upto_list, length_packed (list_bits_of form) (kappa_of g.set) g.list))

  -- the record, its pieces from the left
  pub by_pieces : record_of form g ≡ ((header_of form g.set g.key ++ z1_bytes form g) ++ z2_bytes form g) ++ list_bytes form g
  unfolding record_of
  by_pieces = refl

module _ (form : Form) (g : Signature) (old header wide narrow places : List ℕ) (z2 list total : ℕ) where
  pub pieces : header ≡ header_of form g.set g.key → wide ≡ z1_bytes form g → narrow ≡ z2_bytes form g → places ≡ list_bytes form g
      → z2 ≡ z2_offset_of form → list ≡ list_offset_of form → total ≡ total_of form g.set
      → put_mid list (total - list) (put_mid z2 (list - z2) (put_mid z1_offset (z2 - z1_offset) (header ++ drop z1_offset old) wide) narrow) places
      ≡ record_of form g ++ drop (total_of form g.set) old
  pieces e f h k z l t =
      rw (
        e,
        f,
        h,
        k,
        z,
        l,
        t,
        piece z1_offset (z2_offset_of form) old (header_of form g.set g.key) (z1_bytes form g) (z2_after form) (upto_z1 form g),
        piece (z2_offset_of form) (list_offset_of form) old (header_of form g.set g.key ++ z1_bytes form g) (z2_bytes form g) (list_after form) (upto_z2 form g),
        piece (list_offset_of form) (total_of form g.set) old ((header_of form g.set g.key ++ z1_bytes form g) ++ z2_bytes form g) (list_bytes form g) (after_list form g.set) (upto_list form g),
        by_pieces form g,
      )
