-- Demand 2: "A record written reads back as the same signature, and a record that reads is the one that the writer makes of it." Over the definitions that
-- the calls' contracts cite, for all sets and both forms at once. A call is done where the number of its outcome is 0. Assumes nothing.
use mathlib.Core.Path.{◌≡◌, refl, sym, ap, ◌∙◌}
use mathlib.Core.Bool.{true, false}
use mathlib.Core.List.{List, ◌++◌, map}
use Prim.Native.Nat.{ℕ, ◌+◌, ◌^◌, ◌<◌, ◌≤◌}
use borrow.Author.Tests.{eq-eqb, eqb-true, le-leb, leb-true, ltb-true}
use lib.Dec.{eqb, leb}
use lib.IntN.{ℤ}
use lib.ListN.{length, take, drop, length-map}
use lib.Seq.{take_at}
use Rattle.laws.specs.Lists.{every}
use Rattle.laws.proofs.Chain.{through, differ}
use Rattle.laws.proofs.Entries.{every_anywhere}
use Rattle.sets.specs.declared.Set.{Set}
use Rattle.std.specs.Prelude.{Option, Some, None, Ok, Err}
use Rattle.sets.specs.Numbers.{dimension, list_limit, kappa_of, set_number_of, asked_of}
use Rattle.sets.proofs.Alike.{asked_back}
use Rattle.answers.specs.Outcomes.{Outcome, Done, number_of, is_done, unless, for_set, filled}
use Rattle.answers.specs.declared.Refusal.TheVariants.{UnknownSet, WrongLength, HeaderMalformed, OutputShort}
use Rattle.answers.proofs.Calls.{zero_is}
use Rattle.byte_codes.specs.Bytes.{is_byte, from_complement}
use Rattle.bit_codes.specs.Bits.{unpacked_bits}
use Rattle.bit_codes.proofs.Digits.{length_unpacked}
use Rattle.record_forms.specs.declared.Form.{Form}
use Rattle.record_forms.specs.declared.Form.TheVariants.{Plain}
use Rattle.record_forms.specs.Forms.{z1_bits_of, z2_bits_of, list_bits_of, z1_offset, z2_offset_of, list_offset_of, total_of}
use Rattle.record_forms.specs.Headers.{Header, key_in, part, header_in, opened}
use Rattle.record_forms.specs.Sections.{fetched, section_of, z1_section, z2_section, list_section}
use Rattle.record_forms.proofs.Stated.{stated, states_back}
use Rattle.records.specs.Signatures.{Signature, signature, z1_bytes, z2_bytes, list_bytes, record_of, signature_in, refusal_of}
use Rattle.records.specs.Writer.{put_to, recorded_to, writing_for, Offered, offered, writing_of}
use Rattle.records.specs.Reader.{Buffers, buffers, Found, found, keeping, reading_for, reading_of}
use Rattle.records.proofs.Buffers.{proper_length}
use Rattle.records.proofs.Forms.{Sized}
use Rattle.records.proofs.Back.{z1_part, z2_part, list_part, record_stated, signature_back, record_back}

-- What was written is a record, the first bytes of the output: it reads as the same set, after the rule for 0, key number, z1, z2 dagger and list, whatever
-- the buffers held.
pub record ReadsBack (form : Form) (a : Offered) (out : List ℕ) : Type 0 where
  pub s : Set
  pub asked : asked_of a.set ≡ Some s
  pub reads : (b : Buffers) → length b.z1 ≡ dimension → length b.z2 ≡ dimension → length b.list ≡ list_limit
      → (o : Outcome) × (number_of o ≡ 0)
      × (reading_of form (take (total_of form s) out) b ≡ found o (set_number_of s) a.key (buffers a.z1 a.z2 (a.list ++ drop (kappa_of s) b.list)))

-- And the section calls answer the sections of a plain one, wherever it lies.
pub record SectionsBack (a : Offered) (out : List ℕ) : Type 0 where
  pub s : Set
  pub asked : asked_of a.set ≡ Some s
  pub z1_section_lem : (p : ℕ × ℕ) → z1_section p (take (total_of Plain s) out) ≡ fetched (p.0, z1_offset + p.1) (z1_bytes Plain (signature s a.key a.z1 a.z2 a.list)) 0 0
  pub z2_section_lem : (p : ℕ × ℕ) → z2_section p (take (total_of Plain s) out) ≡ fetched (p.0, z2_offset_of Plain + p.1) (z2_bytes Plain (signature s a.key a.z1 a.z2 a.list)) 0 0
  pub list_section_lem : (p : ℕ × ℕ) → list_section p (take (total_of Plain s) out) ≡ fetched (p.0, list_offset_of Plain + p.1) (list_bytes Plain (signature s a.key a.z1 a.z2 a.list)) 0 0

-- What was read is a signature, its list the first entries of the buffer: the writer makes the record of it again, byte for byte, at the front of any
-- output that is long enough.
pub record WritesBack (form : Form) (rec : List ℕ) (a : Offered) : Type 0 where
  pub s : Set
  pub named : a.set ≡ set_number_of s
  pub writes : (out : List ℕ) → total_of form s ≤ length out
      → (o : Outcome) × (number_of o ≡ 0) × (writing_of form (offered a.set a.key a.z1 a.z2 (take (kappa_of s) a.list)) out ≡ filled o (rec ++ drop (total_of form s) out))

-- ---- what a call passed that is done
not_done : {o : Outcome} → is_done o ≡ false → o ≡ Done → ⊥
not_done e f = differ (sym e ∙ ap is_done f)

refused_write : {o : Outcome} {out out' : List ℕ} → is_done o ≡ false → filled o out ≡ filled Done out' → ⊥
refused_write {o} e f = let same : o ≡ Done = cc in not_done e same

-- what a writer passed that is done
pub record Recorded (form : Form) (g : Signature) (out out' : List ℕ) : Type 0 where
  pub kept : is_done (refusal_of g) ≡ true
  pub room : total_of form g.set ≤ length out
  pub is : out' ≡ record_of form g ++ drop (total_of form g.set) out

pub recorded : (form : Form) (g : Signature) (out out' : List ℕ) → recorded_to form g out ≡ filled Done out' → Recorded form g out out'
unfolding recorded_to put_to
recorded form g out out' e =
    let (kept, e1) = through (is_done (refusal_of g)) (filled (refusal_of g) out) _ _ refused_write e in
    let (room, e2) = through (leb (total_of form g.set) (length out)) (filled (Err OutputShort) out) _ _ (λ t. refused_write refl) e1 in
    record { kept = kept; room = leb-true _ _ room; is = sym (output e2) }
  where
    output : {l l' : List ℕ} → filled Done l ≡ filled Done l' → l ≡ l'
    output e = cc

pub recorded_back : (form : Form) (g : Signature) (out : List ℕ) → is_done (refusal_of g) ≡ true → total_of form g.set ≤ length out
    → recorded_to form g out ≡ filled Done (record_of form g ++ drop (total_of form g.set) out)
unfolding recorded_to put_to
recorded_back form g out kept room = rw (kept, le-leb _ _ room)

record Wrote (form : Form) (g : Signature) (out out' : List ℕ) : Type 0 where
  sized : Sized g
  recorded : Recorded form g out out'

wrote : (form : Form) (g : Signature) (out out' : List ℕ) → writing_for form g out ≡ filled Done out' → Wrote form g out out'
unfolding writing_for
wrote form g out out' e =
    let (l1, e1) = through (eqb (length g.z1) dimension) (filled (Err WrongLength) out) _ _ (λ t. refused_write refl) e in
    let (l2, e2) = through (eqb (length g.z2) dimension) (filled (Err WrongLength) out) _ _ (λ t. refused_write refl) e1 in
    let done = recorded form g out out' e2 in
    record { sized = record { z1_long = eqb-true _ _ l1; z2_long = eqb-true _ _ l2; list_long = proper_length g done.kept }; recorded = done }

-- ---- there
module _ (form : Form) (g : Signature) (so : Sized g) (kept : is_done (refusal_of g) ≡ true) where
  pub reads_back : g.key < 2 ^ 32 → (b : Buffers) → length b.z1 ≡ dimension → length b.z2 ≡ dimension → length b.list ≡ list_limit
      → reading_of form (record_of form g) b ≡ found Done (set_number_of g.set) g.key (buffers g.z1 g.z2 (g.list ++ drop (kappa_of g.set) b.list))
  unfolding reading_of reading_for
  reads_back small b l1 l2 l3 =
      rw (eq-eqb _ _ l1, eq-eqb _ _ l2, eq-eqb _ _ l3, states_back (record_stated form g so kept))
      (ap
      (λ (h : Signature). unless (refusal_of h) (keeping b) (found Done (set_number_of g.set) h.key (buffers h.z1 h.z2 (h.list ++ drop (kappa_of g.set) b.list))))
      (signature_back form g so kept small)
      ∙ rw kept)

  -- the record at the front of an output
  pub front_back : (out out' : List ℕ) → out' ≡ record_of form g ++ drop (total_of form g.set) out → take (total_of form g.set) out' ≡ record_of form g
  front_back out out' e = ap (take (total_of form g.set)) e ∙ take_at (record_of form g) _ (total_of form g.set) (record_stated form g so kept).total

module _ (g : Signature) (so : Sized g) (kept : is_done (refusal_of g) ≡ true) where
  section_back : (from to : ℕ) (bytes : List ℕ) (p : ℕ × ℕ) → part from to (record_of Plain g) ≡ bytes → section_of from to p (record_of Plain g) ≡ fetched (p.0, from + p.1) bytes 0 0
  unfolding section_of
  section_back from to bytes p e = rw (states_back (record_stated Plain g so kept)) (ap (λ (l : List ℕ). fetched (p.0, from + p.1) l 0 0) e)

-- what was written, by the set that was asked for
module _ (form : Form) (a : Offered) (out out' : List ℕ) where
  abbrev of : Set → Signature
  of s = signature s a.key a.z1 a.z2 a.list

  pub record Written : Type 0 where
    pub s : Set
    pub asked : asked_of a.set ≡ Some s
    pub sized : Sized (of s)
    pub kept : is_done (refusal_of (of s)) ≡ true
    pub front : take (total_of form s) out' ≡ record_of form (of s)

  pub written : (o : Outcome) → number_of o ≡ 0 → writing_of form a out ≡ filled o out' → Written
  unfolding writing_of
  written o zero e = by_set (asked_of a.set) refl (e ∙ ap (λ (p : Outcome). filled p out') (zero_is o zero))
    where
      by_set : (k : Option Set) → asked_of a.set ≡ k → for_set k (filled (Err UnknownSet) out) (λ s. writing_for form (of s) out) ≡ filled Done out' → Written
      by_set None asked e = absurd (refused_write refl e)
      by_set (Some s) asked e =
          let w = wrote form (of s) out out' e in
          record {
            s = s;
            asked = asked;
            sized = w.sized;
            kept = w.recorded.kept;
            front = front_back form (of s) w.sized w.recorded.kept out out' w.recorded.is;
          }

-- the key number has its four bytes
pub written_reads : (form : Form) (a : Offered) (out : List ℕ) (o : Outcome) (out' : List ℕ) → a.key < 2 ^ 32 → number_of o ≡ 0 → writing_of form a out ≡ filled o out'
    → ReadsBack form a out'
written_reads form a out o out' small zero e =
    let w = written form a out out' o zero e in
    record {
      s = w.s;
      asked = w.asked;
      reads = λ b l1 l2 l3. (Done, refl, rw w.front (reads_back form (of form a out out' w.s) w.sized w.kept small b l1 l2 l3));
    }

pub written_sections : (a : Offered) (out : List ℕ) (o : Outcome) (out' : List ℕ) → number_of o ≡ 0 → writing_of Plain a out ≡ filled o out' → SectionsBack a out'
written_sections a out o out' zero e =
    let w = written Plain a out out' o zero e in
    let g = of Plain a out out' w.s in
    let total : length (record_of Plain g) ≡ total_of Plain w.s = (record_stated Plain g w.sized w.kept).total in
    record {
      s = w.s;
      asked = w.asked;
      z1_section_lem = λ p. rw w.front (section_back g w.sized w.kept z1_offset (z2_offset_of Plain) (z1_bytes Plain g) p (z1_part Plain g));
      z2_section_lem = λ p. rw w.front (section_back g w.sized w.kept (z2_offset_of Plain) (list_offset_of Plain) (z2_bytes Plain g) p (z2_part Plain g));
      list_section_lem = λ p. rw w.front
          (section_back g w.sized w.kept (list_offset_of Plain) _ (list_bytes Plain g) p (ap (λ (n : ℕ). part (list_offset_of Plain) n (record_of Plain g)) total ∙ list_part Plain g));
    }

-- ---- and back
refused_read : {o : Outcome} {n n' k k' : ℕ} {x x' : Buffers} → is_done o ≡ false → found o n k x ≡ found Done n' k' x' → ⊥
refused_read {o} e f = let same : o ≡ Done = cc in not_done e same

-- what a reader passed that is done
pub record FoundWell (form : Form) (rec : List ℕ) (b : Buffers) (x : Found) : Type 0 where
  pub s : Set
  pub header : header_in form rec ≡ Ok s
  pub kept : is_done (refusal_of (signature_in form s rec)) ≡ true
  pub is : found Done (set_number_of s) (signature_in form s rec).key
      (buffers (signature_in form s rec).z1 (signature_in form s rec).z2 ((signature_in form s rec).list ++ drop (kappa_of s) b.list)) ≡ x

pub found_well : (form : Form) (rec : List ℕ) (b : Buffers) (set key : ℕ) (x : Buffers) → reading_of form rec b ≡ found Done set key x
    → FoundWell form rec b (found Done set key x)
unfolding reading_of reading_for
found_well form rec b set key x e =
    let refusal = keeping b (Err WrongLength) in
    let (l1, e1) = through (eqb (length b.z1) dimension) refusal _ _ (λ t. refused_read refl) e in
    let (l2, e2) = through (eqb (length b.z2) dimension) refusal _ _ (λ t. refused_read refl) e1 in
    let (l3, e3) = through (eqb (length b.list) list_limit) refusal _ _ (λ t. refused_read refl) e2 in
    by_header (header_in form rec) refl e3
  where
    by_header : (h : Header) → header_in form rec ≡ h → opened h (λ place. keeping b (Err (HeaderMalformed place))) (λ s. reading_for form s rec b) ≡ found Done set key x
        → FoundWell form rec b (found Done set key x)
    by_header (Err malformed) h e = absurd (refused_read refl e)
    by_header (Ok s) h e =
        let (kept, e') = through (is_done (refusal_of (signature_in form s rec))) (keeping b (refusal_of (signature_in form s rec))) _ _ refused_read e in
        record { s = s; header = h; kept = kept; is = e' }

-- the signature in a record has the right lengths
pub read_sized : (form : Form) (s : Set) (rec : List ℕ) → Sized (signature_in form s rec)
read_sized form s rec =
    record {
      z1_long = whole_long (from_complement (z1_bits_of form)) (z1_bits_of form) dimension (part z1_offset (z2_offset_of form) rec);
      z2_long = whole_long (from_complement (z2_bits_of form)) (z2_bits_of form) dimension (part (z2_offset_of form) (list_offset_of form) rec);
      list_long = length_unpacked (list_bits_of form) (kappa_of s) (part (list_offset_of form) (total_of form s) rec);
    }
  where
    whole_long : (f : ℕ → ℤ) (width count : ℕ) (bytes : List ℕ) → length (map f (unpacked_bits width count bytes)) ≡ count
    whole_long f width count bytes = length-map (unpacked_bits width count bytes) f ∙ length_unpacked width count bytes

-- a record of bytes is that of its signature
pub record_is : (form : Form) (s : Set) (rec : List ℕ) → header_in form rec ≡ Ok s → every is_byte rec ≡ true → record_of form (signature_in form s rec) ≡ rec
record_is form s rec header bytes = record_back (stated form rec header) (λ k. ltb-true _ _ (every_anywhere is_byte rec k 0 bytes refl))

-- the writer of either form goes from the signature in a record to its record in that form
pub writes_on : (from to : Form) (s : Set) (rec out : List ℕ) → writing_for to (signature_in from s rec) out ≡ recorded_to to (signature_in from s rec) out
unfolding writing_for
writes_on from to s rec out = let so = read_sized from s rec in rw (eq-eqb _ _ so.z1_long, eq-eqb _ _ so.z2_long)

-- what was read, offered to a writer
module _ (from to : Form) (rec : List ℕ) (b : Buffers) (set key : ℕ) (x : Buffers) (r : FoundWell from rec b (found Done set key x)) where
  same : {n n' k k' : ℕ} {x x' : Buffers} → found Done n k x ≡ found Done n' k' x' → (n' ≡ n) × (k' ≡ k) × (x' ≡ x)
  same e = (cc, cc, cc)

  pub found_named : set ≡ set_number_of r.s
  found_named = (same r.is).0

  pub found_key : key ≡ key_in rec
  found_key = (same r.is).1

  found_list : take (kappa_of r.s) x.list ≡ (signature_in from r.s rec).list
  found_list =
      ap (λ (y : Buffers). take (kappa_of r.s) y.list) (same r.is).2
      ∙ take_at (signature_in from r.s rec).list (drop (kappa_of r.s) b.list) (kappa_of r.s) (read_sized from r.s rec).list_long

  pub offered_again : (out : List ℕ) → writing_of to (offered set key x.z1 x.z2 (take (kappa_of r.s) x.list)) out ≡ recorded_to to (signature_in from r.s rec) out
  unfolding writing_of
  offered_again out =
      let z1 : x.z1 ≡ (signature_in from r.s rec).z1 = ap (λ (y : Buffers). y.z1) (same r.is).2 in
      let z2 : x.z2 ≡ (signature_in from r.s rec).z2 = ap (λ (y : Buffers). y.z2) (same r.is).2 in
      rw (found_list, found_named, found_key, z1, z2, asked_back r.s) (writes_on from to r.s rec out)

pub read_writes : (form : Form) (rec : List ℕ) → every is_byte rec ≡ true → (b : Buffers) (o : Outcome) (set key : ℕ) (x : Buffers)
    → number_of o ≡ 0 → reading_of form rec b ≡ found o set key x → WritesBack form rec (offered set key x.z1 x.z2 x.list)
read_writes form rec bytes b o set key x zero e =
    let r = found_well form rec b set key x (e ∙ ap (λ (p : Outcome). found p set key x) (zero_is o zero)) in
    record {
      s = r.s;
      named = found_named form form rec b set key x r;
      writes = λ out room. (
        Done,
        refl,
        offered_again form form rec b set key x r out ∙ recorded_back form (signature_in form r.s rec) out r.kept room
            ∙ ap (λ (l : List ℕ). filled Done (l ++ drop (total_of form r.s) out)) (record_is form r.s rec r.header bytes),
      );
    }
