use mathlib.Core.Path.{◌≡◌, ap, ◌∙◌}
use mathlib.Core.List.{List, ◌++◌, map}
use Prim.Native.Nat.{ℕ}
use lib.IntN.{ℤ}
use lib.ListN.{length, take, drop, get_or}
use Rattle.std.proofs.lemmas.List.{map-id}
use mir.Syntax.{w8}
use mir.Val.{Fits}
use Rattle.sets.specs.declared.Set.{Set}
use Rattle.sets.specs.Numbers.{dimension, list_limit, kappa_of}
use Rattle.byte_codes.specs.Bytes.{unpacked, from_complement}
use Rattle.bit_codes.proofs.WholeBytes.{unpacked_bits_lem}
use Rattle.record_forms.specs.declared.Form.TheVariants.{Plain}
use Rattle.record_forms.specs.Forms.{z1_offset, z2_offset_of, list_offset_of, total_of}
use Rattle.record_forms.specs.Headers.{part}
use Rattle.records.specs.Signatures.{signature_in}
use Rattle.records.proofs.Buffers.{front_long, part_small}
use Rattle.records.proofs.PlainSectionsSections.unpack.Goals as goal

module _ (s : Set) (rec : List ℕ) (fit : (k : ℕ) → Fits w8 (get_or rec k 0)) where
  -- entries of two bytes and of one, as many as the buffer has
  z1_read : (n : ℕ) (now : List ℤ) → n ≡ dimension → now ≡ map (from_complement 16) (unpacked 2 n (part z1_offset (z2_offset_of Plain) rec)) → now ≡ (signature_in Plain s rec).z1
  z1_read n now h e = e ∙ rw h (ap (map (from_complement 16)) (unpacked_bits_lem 2 dimension _ (part_small rec (λ k. (fit k).fits) z1_offset (z2_offset_of Plain))))

  z2_read : (n : ℕ) (now : List ℤ) → n ≡ dimension → now ≡ map (from_complement 8) (unpacked 1 n (part (z2_offset_of Plain) (list_offset_of Plain) rec)) → now ≡ (signature_in Plain s rec).z2
  z2_read n now h e = e ∙ rw h (ap (map (from_complement 8)) (unpacked_bits_lem 1 dimension _ (part_small rec (λ k. (fit k).fits) (z2_offset_of Plain) (list_offset_of Plain))))

  module _ (list : List ℕ) (kappa : ℕ) (long : length rec ≡ total_of Plain s) (e : kappa ≡ kappa_of s) (h : length list ≡ list_limit) where
    -- the list that was read, in front of the old entries
    places_read : (now : List ℕ) → now ≡ map (λ (x : ℕ). x) (unpacked 2 (length (take kappa list)) (part (list_offset_of Plain) (length rec) rec))
        → now ++ drop kappa list ≡ (signature_in Plain s rec).list ++ drop (kappa_of s) list
    places_read now k =
        let is : now ≡ (signature_in Plain s rec).list =
        k ∙ map-id _ ∙ rw (← front_long list kappa s e h, e, long) (unpacked_bits_lem 2 (kappa_of s) _ (part_small rec (λ k. (fit k).fits) (list_offset_of Plain) (total_of Plain s))) in
        rw (is, e)

pub returns : goal.returns
returns c = (search z1_read, search z2_read, search places_read)
