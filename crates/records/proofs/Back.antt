-- A signature that is not refused is the one in its record, and a record of bytes whose header states a set is that of the signature in it: in either form.
-- Assumes nothing.
use mathlib.Core.Path.{◌≡◌, refl, sym, ap, ap₂, ◌∙◌}
use mathlib.Core.Bool.{Bool, true, false}
use mathlib.Core.List.{List, [], ◌∷◌, ◌++◌, map, append_assoc, append-nil}
use Prim.Native.Nat.{ℕ, zero, suc, ◌*◌, ◌-◌, ◌^◌, ◌≤◌, ◌<◌}
use native.Mathlib.Nat.{mul-le-mul_left, le_refl, lt_of_lt_of_le}
use native.Mathlib.Omega.{arith}
use borrow.Author.Tests.{leb-true, leb-false}
use lib.Dec.{leb}
use lib.IntN.{ℤ, pos, nat_abs}
use lib.ListN.{length, take, drop, get_or, length-append, length-drop}
use lib.Pow.{pow_pos, pow_mono}
use lib.Seq.{take_at, take_all, drop_at, length-take-le}
use Rattle.sets.specs.declared.Set.{Set}
use Rattle.sets.specs.Numbers.{dimension, kappa_of, d_of, largest_of}
use Rattle.sets.proofs.Alike.{largest_below_4096, largest_dagger}
use Rattle.std.specs.Prelude.{Err}
use Rattle.answers.specs.declared.Refusal.TheVariants.{ImproperList}
use Rattle.answers.specs.Outcomes.{Done, is_done}
use Rattle.answers.proofs.Calls.{done_is, done_next}
use Rattle.vectors.specs.Places.{proper_list}
use Rattle.vectors.proofs.Rising.{proper_place}
use Rattle.limits.specs.LengthRule.{length_rule}
use Rattle.limits.proofs.Rule.{first_within, second_within}
use Rattle.byte_codes.specs.Bytes.{from_complement}
use Rattle.bit_codes.specs.Bits.{number, recoded, bytes_for, unpacked_bits}
use Rattle.bit_codes.proofs.Digits.{number_below, number_digits, unpacked_packed, packed_unpacked, room}
use Rattle.bit_codes.proofs.Signs.{numbers_back, bytes_back}
use Rattle.record_forms.specs.declared.Form.{Form}
use Rattle.record_forms.specs.Forms.{z1_bits_of, z2_bits_of, list_bits_of, key_offset, header_length, z1_offset, z2_offset_of, list_offset_of, total_of}
use Rattle.record_forms.specs.Headers.{fields_of, header_of, key_in, part}
use Rattle.record_forms.proofs.Agreement.{take_further}
use Rattle.record_forms.proofs.Forms.{z2_after_z1, list_after_z2, z2_after, list_after, after_list, z1_bits_enough, z2_bits_enough, list_bits_enough, z1_whole, z2_whole}
use Rattle.record_forms.proofs.Stated.{Stated}
use Rattle.record_forms.proofs.KeyNumbers.{header_opens, key_back, header_again}
use Rattle.records.specs.Signatures.{Signature, signature, z1_bytes, z2_bytes, list_bytes, record_of, signature_in, refusal_for, refusal_of}
use Rattle.records.proofs.Buffers.{refusal_proper, part_small}
use Rattle.records.proofs.Forms.{Sized, upto_z1, upto_z2, upto_list, upto_end, by_pieces}

anywhere : (l : List ℕ) (bound : ℕ) → 0 < bound → ((k : ℕ) → k < length l → get_or l k 0 < bound) → (k : ℕ) → get_or l k 0 < bound
anywhere [] bound h at k = h
anywhere (x ∷ l) bound h at zero = at 0 (omega arith)
anywhere (x ∷ l) bound h at (suc k) = anywhere l bound h (λ j i. at (suc j) (omega arith)) k

-- ---- a signature that is not refused fits the bits of either form
module _ (form : Form) (g : Signature) (kept : is_done (refusal_of g) ≡ true) where
  rule : length_rule g.set g.z1 g.z2 ≡ Done
  unfolding refusal_for
  rule = done_is _ (done_next (Err ImproperList) (length_rule g.set g.z1 g.z2) refl (proper_list g.set g.list) kept)

  pub z1_small : (k : ℕ) → 2 * nat_abs (get_or g.z1 k (pos 0)) < 2 ^ z1_bits_of form
  z1_small k =
      let most : 2 ^ 13 ≤ 2 ^ z1_bits_of form = pow_mono (z1_bits_enough form) in
      omega (arith, first_within g.set g.z1 g.z2 rule k, largest_below_4096 g.set)

  pub z2_small : (k : ℕ) → 2 * nat_abs (get_or g.z2 k (pos 0)) < 2 ^ z2_bits_of form
  z2_small k =
      let most : 2 ^ 4 ≤ 2 ^ z2_bits_of form = pow_mono (z2_bits_enough form) in
      omega (arith, below (nat_abs (get_or g.z2 k (pos 0))) (second_within g.set g.z1 g.z2 rule k))
    where
      below : (n : ℕ) → 2 ^ d_of g.set * n ≤ largest_of g.set → n < 8
      below n h = pick (leb 8 n) refl
        where
          pick : (b : Bool) → leb 8 n ≡ b → n < 8
          pick false e = leb-false 8 n e
          pick true e = let more : 2 ^ d_of g.set * 8 ≤ 2 ^ d_of g.set * n = mul-le-mul_left (2 ^ d_of g.set) (leb-true 8 n e) in omega (arith, largest_dagger g.set)

  pub list_small : (k : ℕ) → get_or g.list k 0 < 2 ^ list_bits_of form
  list_small =
      anywhere g.list (2 ^ list_bits_of form) (pow_pos (list_bits_of form))
      (λ k h. lt_of_lt_of_le (proper_place g.set g.list (refusal_proper g kept) k h) (pow_mono (list_bits_enough form)))

-- ---- the parts of what is joined
part_joined : (from to : ℕ) (p y q : List ℕ) → length p ≡ from → length (p ++ y) ≡ to → part from to ((p ++ y) ++ q) ≡ y
part_joined from to p y q e f =
    let count : length y ≡ to - from = omega (arith, length-append p y) in
    ap (λ (l : List ℕ). part from to l) (append_assoc p y q) ∙ ap (take (to - from)) (drop_at p (y ++ q) from e) ∙ take_at y q (to - from) count

module _ (form : Form) (g : Signature) where
  pub z1_part : part z1_offset (z2_offset_of form) (record_of form g) ≡ z1_bytes form g
  z1_part =
      ap (part z1_offset (z2_offset_of form)) (by_pieces form g ∙ append_assoc (header_of form g.set g.key ++ z1_bytes form g) (z2_bytes form g) (list_bytes form g))
      ∙ part_joined z1_offset (z2_offset_of form) (header_of form g.set g.key) (z1_bytes form g) (z2_bytes form g ++ list_bytes form g) (upto_z1 form g) (upto_z2 form g)

  pub z2_part : part (z2_offset_of form) (list_offset_of form) (record_of form g) ≡ z2_bytes form g
  z2_part =
      ap (part (z2_offset_of form) (list_offset_of form)) (by_pieces form g)
      ∙ part_joined (z2_offset_of form) (list_offset_of form) (header_of form g.set g.key ++ z1_bytes form g) (z2_bytes form g) (list_bytes form g) (upto_z2 form g) (upto_list form g)

  pub list_part : part (list_offset_of form) (total_of form g.set) (record_of form g) ≡ list_bytes form g
  list_part =
      ap (part (list_offset_of form) (total_of form g.set)) (by_pieces form g ∙ sym (append-nil _))
      ∙ part_joined (list_offset_of form) (total_of form g.set) ((header_of form g.set g.key ++ z1_bytes form g) ++ z2_bytes form g) (list_bytes form g) [] (upto_list form g) (upto_end form g)

  -- the header and what follows it
  pub by_header : record_of form g ≡ header_of form g.set g.key ++ (z1_bytes form g ++ (z2_bytes form g ++ list_bytes form g))
  unfolding record_of
  by_header = simp append_assoc refl

  opens : take key_offset (record_of form g) ≡ fields_of form g.set
  opens = ap (take key_offset) by_header ∙ header_opens form g.set g.key (z1_bytes form g ++ (z2_bytes form g ++ list_bytes form g))

  pub key_part : g.key < 2 ^ 32 → key_in (record_of form g) ≡ g.key
  key_part small = ap key_in by_header ∙ key_back form g.set g.key (z1_bytes form g ++ (z2_bytes form g ++ list_bytes form g)) small

  module _ (so : Sized g) (kept : is_done (refusal_of g) ≡ true) where
    -- the list's section is a number of its own bits alone
    spare_clear : number 8 (list_bytes form g) < 2 ^ (list_bits_of form * kappa_of g.set)
    unfolding recoded
    spare_clear =
        let w = list_bits_of form in
        let count = kappa_of g.set in
        let below : number w g.list < 2 ^ (w * count) = rw (← so.list_long) (number_below w g.list (list_small form g kept)) in
        rw (number_digits 8 (bytes_for (w * count)) (number w g.list) (lt_of_lt_of_le below (pow_mono (room w count)))) below

    pub record_stated : Stated form g.set (record_of form g)
    record_stated =
        record {
          total = ap length (by_pieces form g) ∙ upto_end form g;
          front = opens;
          spare = rw list_part spare_clear;
        }

    -- ---- there
    pub signature_back : g.key < 2 ^ 32 → signature_in form g.set (record_of form g) ≡ g
    signature_back small =
        parts
        (key_part small)
        (ap (λ (l : List ℕ). map (from_complement (z1_bits_of form)) (unpacked_bits (z1_bits_of form) dimension l)) z1_part ∙ numbers_back (z1_bits_of form) dimension g.z1 so.z1_long (z1_small form g kept))
        (ap (λ (l : List ℕ). map (from_complement (z2_bits_of form)) (unpacked_bits (z2_bits_of form) dimension l)) z2_part ∙ numbers_back (z2_bits_of form) dimension g.z2 so.z2_long (z2_small form g kept))
        (ap (unpacked_bits (list_bits_of form) (kappa_of g.set)) list_part ∙ unpacked_packed (list_bits_of form) (kappa_of g.set) g.list so.list_long (list_small form g kept))
      where
        parts : {key : ℕ} {z1 z2 : List ℤ} {list : List ℕ} → key ≡ g.key → z1 ≡ g.z1 → z2 ≡ g.z2 → list ≡ g.list → signature g.set key z1 z2 list ≡ g
        parts d e f h = rw (d, e, f, h)

-- ---- and back
module _ {form : Form} {s : Set} {rec : List ℕ} (so : Stated form s rec) (small : (k : ℕ) → get_or rec k 0 < 256) where
  part_long : (from to : ℕ) → from ≤ to → to ≤ total_of form s → length (part from to rec) ≡ to - from
  part_long from to h k = length-take-le (to - from) (drop from rec) (omega (arith, length-drop from rec, so.total))

  -- a part of whole bytes has no spare bit
  no_spare : (from to bits : ℕ) → length (part from to rec) ≡ bytes_for bits → 8 * bytes_for bits ≡ bits → number 8 (part from to rec) < 2 ^ bits
  no_spare from to bits long whole =
      let all = number_below 8 (part from to rec) (part_small rec small from to) in
      rw (long, whole) at all

  pub record_back : record_of form (signature_in form s rec) ≡ rec
  unfolding record_of
  record_back =
      let end : list_offset_of form ≤ total_of form s = after_list form s in
      let z1_long : length (part z1_offset (z2_offset_of form) rec) ≡ bytes_for (z1_bits_of form * dimension) =
      part_long z1_offset (z2_offset_of form) (z2_after form) (omega (arith, list_after form)) ∙ omega (arith, z2_after_z1 form) in
      let z2_long : length (part (z2_offset_of form) (list_offset_of form) rec) ≡ bytes_for (z2_bits_of form * dimension) =
      part_long (z2_offset_of form) (list_offset_of form) (list_after form) end ∙ omega (arith, list_after_z2 form) in
      let list_long : length (part (list_offset_of form) (total_of form s) rec) ≡ bytes_for (list_bits_of form * kappa_of s) =
      part_long (list_offset_of form) (total_of form s) end (le_refl (total_of form s)) ∙ omega arith in
      let z1-back = bytes_back (z1_bits_of form) dimension (part z1_offset (z2_offset_of form) rec) z1_long (part_small rec small z1_offset (z2_offset_of form)) (no_spare z1_offset (z2_offset_of form) _ z1_long (z1_whole form)) in
      let z2-back = bytes_back (z2_bits_of form) dimension (part (z2_offset_of form) (list_offset_of form) rec) z2_long (part_small rec small (z2_offset_of form) (list_offset_of form)) (no_spare (z2_offset_of form) (list_offset_of form) _ z2_long (z2_whole form)) in
      let List-back = packed_unpacked (list_bits_of form) (kappa_of s) (part (list_offset_of form) (total_of form s) rec) list_long (part_small rec small (list_offset_of form) (total_of form s)) so.spare in
      let front : take header_length rec ≡ header_of form s (key_in rec) = header_again form s rec small (omega (arith, so.total, z2_after form, list_after form)) so.front in
      ap₂ ◌++◌ (ap₂ ◌++◌ (ap₂ ◌++◌ (sym front) z1-back ∙ sym (take_further z1_offset (z2_offset_of form) rec (z2_after form))) z2-back
      ∙ sym (take_further (z2_offset_of form) (list_offset_of form) rec (list_after form))) List-back
      ∙ sym (take_further (list_offset_of form) (total_of form s) rec end) ∙ take_all (total_of form s) rec (omega (arith, so.total))
