-- 02, C-13: the key number in the bytes of a record, in what a response answers, and out of every header test. Assumes nothing.
use mathlib.Core.Path.{◌≡◌, refl, sym, ap, ◌∙◌}
use mathlib.Core.Bool.{Bool, true, false}
use mathlib.Core.List.{List, ◌++◌, append_assoc}
use Prim.Native.Nat.{ℕ, ◌+◌, ◌*◌, ◌-◌, ◌/◌, ◌%◌, ◌<◌, ◌≤◌}
use native.Mathlib.Omega.{arith}
use lib.Dec.{eqb, leb, lit<, lit≤}
use lib.ListN.{length, take, drop, get_or, get_or-append}
use lib.Seq.{get_or-take, get_or-drop, get_or-append-add, drop-drop}
use Rattle.laws.specs.Refusals.{must}
use Rattle.sets.specs.declared.Set.{Set}
use Rattle.std.specs.Prelude.{Option, Some, None, Ok, Err}
use Rattle.sets.specs.Numbers.{list_limit, set_number_of, named_of}
use Rattle.answers.specs.Outcomes.{Outcome, Done, is_done, unless, key_with, for_set}
use Rattle.answers.specs.declared.Refusal.TheVariants.{HeaderMalformed}
use Rattle.answers.proofs.Calls.{zero_is}
use Rattle.vectors.specs.Vectors.{sized}
use Rattle.signing.specs.Response.{numbered, response}
use Rattle.signing.proofs.Numbered.{key_done, unnumbered_of}
use Rattle.byte_codes.specs.Bytes.{bytes_of}
use Rattle.byte_codes.proofs.Four.{four_read}
use Rattle.byte_codes.proofs.Sections.{length_bytes}
use Rattle.record_forms.specs.declared.Form.{Form}
use Rattle.record_forms.specs.Forms.{letters_of, key_offset, header_length, z1_offset, z2_offset_of, list_offset_of, total_of}
use Rattle.record_forms.specs.Headers.{Header, malformed, fields_of, header_of, key_in, part, agree, spare_bits, set_fields, fields_after, header_in, opened}
use Rattle.record_forms.proofs.Forms.{z2_after, list_after}
use Rattle.record_forms.proofs.Stated.{stated, fields_long, part_take}
use Rattle.record_forms.proofs.KeyNumbers.{key_long}
use Rattle.records.specs.Signatures.{Signature, signature, z1_bytes, z2_bytes, list_bytes, record_of, signature_in, refusal_of}
use Rattle.records.specs.Reader.{Buffers, Found, found, keeping, reading_for, reading_of}
use Rattle.records.proofs.Back.{by_header}
use Rattle.records.proofs.RoundTrip.{written, found_well, found_key}
use Rattle.promises.specs.KeyNumbers.{KeyBytes, KeyRead, Alike, rekeyed, KeyUntested, KeyGivenOut}

-- ---- in the bytes of a record
-- byte i of the key number
record_byte : (form : Form) (g : Signature) (i : ℕ) → i < 4 → get_or (record_of form g) (key_offset + i) 0 ≡ get_or (bytes_of 4 g.key) i 0
unfolding header_of
record_byte form g i h =
    let rest = z1_bytes form g ++ (z2_bytes form g ++ list_bytes form g) in
    ap (λ (l : List ℕ). get_or l (key_offset + i) 0) (by_header form g ∙ append_assoc (fields_of form g.set) (bytes_of 4 g.key) rest)
    ∙ ap (λ (n : ℕ). get_or (fields_of form g.set ++ (bytes_of 4 g.key ++ rest)) (n + i) 0) (sym (fields_long form g.set))
    ∙ get_or-append-add (fields_of form g.set) (bytes_of 4 g.key ++ rest) i 0
    ∙ get_or-append (bytes_of 4 g.key) rest 0 i (omega (arith, length_bytes 4 g.key))

pub key_bytes : KeyBytes
unfolding bytes_of
key_bytes form a out o after e zero =
    let w = written form a out after o zero e in
    let long : header_length ≤ total_of form w.s = omega (arith, z2_after form, list_after form) in
    let at : (i : ℕ) → i < 4 → get_or after (key_offset + i) 0 ≡ get_or (bytes_of 4 a.key) i 0 =
    λ i h.
    sym (get_or-take (total_of form w.s) after (key_offset + i) 0 (omega (arith, long)))
    ∙ ap (λ (l : List ℕ). get_or l (key_offset + i) 0) w.front
    ∙ record_byte form (signature w.s a.key a.z1 a.z2 a.list) i h in
    (at 0 (lit< tt), at 1 (lit< tt), at 2 (lit< tt) ∙ twice a.key, at 3 (lit< tt) ∙ thrice a.key)
  where
    twice : (x : ℕ) → x / 256 / 256 % 256 ≡ x / 65536 % 256
    twice x = omega arith

    thrice : (x : ℕ) → x / 256 / 256 / 256 % 256 ≡ x / 16777216 % 256
    thrice x = omega arith

-- the number that the bytes of a record make
key_of_bytes : (rec : List ℕ) → header_length ≤ length rec → key_in rec ≡ get_or rec 20 0 + 256 * get_or rec 21 0 + 65536 * get_or rec 22 0 + 16777216 * get_or rec 23 0
key_of_bytes rec long =
    let bytes = part key_offset header_length rec in
    let at : (i : ℕ) → i < 4 → get_or bytes i 0 ≡ get_or rec (key_offset + i) 0 = λ i h. get_or-take 4 (drop key_offset rec) i 0 h ∙ get_or-drop key_offset rec i 0 in
    sym (four_read bytes (key_long rec long)) ∙ omega (arith, at 0 (lit< tt), at 1 (lit< tt), at 2 (lit< tt), at 3 (lit< tt))

pub key_read_lem : KeyRead
key_read_lem form rec b o set key after e zero =
    let r = found_well form rec b set key after (e ∙ ap (λ (p : Outcome). found p set key after) (zero_is o zero)) in
    found_key form form rec b set key after r
    ∙ key_of_bytes rec (omega (arith, (stated form rec r.header).total, z2_after form, list_after form))

-- ---- out of every test
module _ {rec rec' : List ℕ} (so : Alike rec rec') where
  part_before : (from to : ℕ) → from ≤ to → to ≤ key_offset → part from to rec ≡ part from to rec'
  part_before from to h k =
      let within : from + (to - from) ≤ key_offset = omega arith in
      sym (part_take from (to - from) key_offset rec within) ∙ ap (part from to) so.before ∙ part_take from (to - from) key_offset rec' within

  drop_after : (from : ℕ) → header_length ≤ from → drop from rec ≡ drop from rec'
  drop_after from h =
      let sum : header_length + (from - header_length) ≡ from = omega arith in
      ap (λ (n : ℕ). drop n rec) (sym sum) ∙ sym (drop-drop (from - header_length) header_length rec) ∙ ap (drop (from - header_length)) so.after
      ∙ drop-drop (from - header_length) header_length rec' ∙ ap (λ (n : ℕ). drop n rec') sum

  part_after : (from to : ℕ) → header_length ≤ from → part from to rec ≡ part from to rec'
  part_after from to h = ap (take (to - from)) (drop_after from h)

  set_at : get_or rec 4 0 ≡ get_or rec' 4 0
  set_at = sym (get_or-take key_offset rec 4 0 (lit< tt)) ∙ ap (λ (l : List ℕ). get_or l 4 0) so.before ∙ get_or-take key_offset rec' 4 0 (lit< tt)

  module _ (form : Form) where
    z2_late : header_length ≤ z2_offset_of form
    z2_late = z2_after form

    list_late : header_length ≤ list_offset_of form
    list_late = omega (arith, z2_after form, list_after form)

    fields_alike : (s : Set) (fields : List ℕ) → fields_after form s fields rec ≡ fields_after form s fields rec'
    unfolding fields_after set_fields spare_bits
    fields_alike s fields =
        rw (
          part_before 5 6 (lit≤ tt) (lit≤ tt),
          part_before 6 8 (lit≤ tt) (lit≤ tt),
          part_before 8 10 (lit≤ tt) (lit≤ tt),
          part_before 10 12 (lit≤ tt) (lit≤ tt),
          part_before 12 14 (lit≤ tt) (lit≤ tt),
          part_before 14 16 (lit≤ tt) (lit≤ tt),
          part_before 16 18 (lit≤ tt) (lit≤ tt),
          part_before 18 20 (lit≤ tt) (lit≤ tt),
          part_after (list_offset_of form) (total_of form s) list_late,
          so.long,
        )

    header_alike : header_in form rec ≡ header_in form rec'
    unfolding header_in
    header_alike =
        rw (so.long, part_before 0 4 (lit≤ tt) (lit≤ tt), set_at)
        (ap (λ (h : Header). must (leb header_length (length rec')) (malformed (length rec')) (must (agree 0 4 rec' (letters_of form)) (malformed 0) h)) (by_set (named_of (get_or rec' 4 0))))
      where
        by_set : (a : Option Set) → for_set a (malformed 4) (λ s. fields_after form s (fields_of form s) rec) ≡ for_set a (malformed 4) (λ s. fields_after form s (fields_of form s) rec')
        by_set None = refl
        by_set (Some s) = fields_alike s (fields_of form s)

    -- the readers
    module _ (b : Buffers) where
      by_test : (t : Bool) (refusal next next' : Found) → refusal ≡ rekeyed (key_in rec') refusal → next' ≡ rekeyed (key_in rec') next
          → must t refusal next' ≡ rekeyed (key_in rec') (must t refusal next)
      by_test true refusal next next' p q = q
      by_test false refusal next next' p q = p

      by_outcome : (p : Outcome) (set key : ℕ) (x : Buffers)
          → unless p (keeping b) (found Done set (key_in rec') x) ≡ rekeyed (key_in rec') (unless p (keeping b) (found Done set key x))
      by_outcome p set key x = pick (is_done p) refl
        where
          pick : (t : Bool) → is_done p ≡ t → must t (keeping b p) (found Done set (key_in rec') x) ≡ rekeyed (key_in rec') (must t (keeping b p) (found Done set key x))
          pick true e = refl
          pick false e = let none : 0 ≡ key_with p (key_in rec') = rw e in ap (λ (n : ℕ). found p 0 n b) none

      reading_for_lem : (s : Set) → reading_for form s rec' b ≡ rekeyed (key_in rec') (reading_for form s rec b)
      unfolding reading_for
      reading_for_lem s =
          rw (
            sym (part_after z1_offset (z2_offset_of form) (lit≤ tt)),
            sym (part_after (z2_offset_of form) (list_offset_of form) z2_late),
            sym (part_after (list_offset_of form) (total_of form s) list_late),
          )
          (by_outcome (refusal_of (signature_in form s rec)) (set_number_of s) (key_in rec) _)

      opened_alike : (h : Header) → opened h (λ place. keeping b (Err (HeaderMalformed place))) (λ s. reading_for form s rec' b)
          ≡ rekeyed (key_in rec') (opened h (λ place. keeping b (Err (HeaderMalformed place))) (λ s. reading_for form s rec b))
      opened_alike (Err m) = refl
      opened_alike (Ok s) = reading_for_lem s

      reading_alike : reading_of form rec' b ≡ rekeyed (key_in rec') (reading_of form rec b)
      unfolding reading_of
      reading_alike =
          rw (sym header_alike)
          (by_test (sized b.z1) _ _ _ refl
          (by_test (sized b.z2) _ _ _ refl
          (by_test (eqb (length b.list) list_limit) _ _ _ refl
          (opened_alike (header_in form rec)))))

pub key_untested : KeyUntested
key_untested form rec rec' so = (header_alike so form, reading_alike so form)

-- ---- in what a response answers
pub key_given_out : KeyGivenOut
unfolding response
key_given_out set key c o count back z1 z2 e =
    let parts = unnumbered_of set key c o count back z1 z2 e in
    (λ zero. parts.1 ∙ key_done o key zero, λ other. ap (numbered other) parts.0)
