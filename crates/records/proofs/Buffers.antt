-- What the calls ask of lengths, and what they leave in the buffers. Assumes nothing.
use mathlib.Core.Path.{◌≡◌, refl, sym, ap, ◌∙◌}
use mathlib.Core.Bool.{true}
use mathlib.Core.List.{List, ◌++◌}
use Prim.Native.Nat.{ℕ, ◌+◌, ◌-◌, ◌≤◌, ◌<◌}
use native.Mathlib.Omega.{arith}
use lib.IntN.{ℤ}
use lib.ListN.{length, take, drop, get_or}
use lib.Seq.{take_at, length-take-le, get_or-drop}
use Rattle.sets.specs.declared.Set.{Set}
use Rattle.sets.specs.Numbers.{list_limit, kappa_of}
use Rattle.sets.proofs.Alike.{kappa_within}
use Rattle.answers.specs.Outcomes.{Outcome, Done, is_done, filled}
use Rattle.answers.specs.declared.Refusal.{Refusal}
use Rattle.std.specs.Prelude.{Result, Ok, Err, IsErrAnd}
use Rattle.answers.specs.declared.Refusal.TheVariants.{ImproperList}
use Rattle.answers.proofs.Calls.{done_test, refused}
use Rattle.vectors.specs.Places.{proper_list}
use Rattle.vectors.proofs.Rising.{proper_count}
use Rattle.limits.specs.LengthRule.{length_rule}
use Rattle.byte_codes.proofs.Sections.{take_small}
use Rattle.bit_codes.proofs.Digits.{length_unpacked}
use Rattle.record_forms.specs.declared.Form.{Form}
use Rattle.record_forms.specs.Forms.{list_bits_of, list_offset_of, total_of}
use Rattle.record_forms.specs.Headers.{Header, key_in, part, header_in}
use Rattle.record_forms.proofs.Stated.{stated}
use Rattle.record_forms.proofs.Ways.{calls}
use Rattle.records.specs.Signatures.{Signature, signature, signature_in, refusal_for, refusal_of}
use Rattle.records.specs.Writer.{put_to, recorded_to}
use Rattle.records.specs.declared.Reading.{Reading}
use Rattle.records.specs.Reader.{Found, found, outcome_of, set_told, key_told, Buffers, keeping}

-- ---- lengths

pub refusal_proper : (g : Signature) → is_done (refusal_of g) ≡ true → proper_list g.set g.list ≡ true
unfolding refusal_for
refusal_proper g e = done_test (Err ImproperList) (length_rule g.set g.z1 g.z2) refl (proper_list g.set g.list) e

-- a list that is not refused has kappa entries
pub proper_length : (g : Signature) → is_done (refusal_of g) ≡ true → length g.list ≡ kappa_of g.set
proper_length g e = proper_count g.set g.list (refusal_proper g e)

pub room : (n total : ℕ) (form : Form) (s : Set) → total ≡ total_of form s → total ≤ n → total_of form s ≤ n
room n total form s e h = omega arith

pub stated_total : (h : Header) (form : Form) (rec : List ℕ) (s : Set) → h ≡ header_in form rec → h ≡ Ok s → length rec ≡ total_of form s
stated_total h form rec s e f = (stated form rec (sym e ∙ f)).total

pub kappa_room : (n kappa : ℕ) (s : Set) → kappa ≡ kappa_of s → n ≡ list_limit → kappa ≤ n
kappa_room n kappa s e f = omega (arith, kappa_within s)

module _ (list : List ℕ) (kappa : ℕ) (s : Set) (e : kappa ≡ kappa_of s) (h : length list ≡ list_limit) where
  pub front_long : kappa ≡ length (take kappa list)
  front_long = sym (length-take-le kappa list (kappa_room (length list) kappa s e h))

-- a list that was read to the front of a buffer
module _ (form : Form) (s : Set) (kappa : ℕ) (rec list old : List ℕ) (f : kappa ≡ kappa_of s) (g : list ≡ (signature_in form s rec).list ++ drop (kappa_of s) old) where
  pub list_front : take kappa list ≡ (signature_in form s rec).list
  list_front =
      let front : take (kappa_of s) ((signature_in form s rec).list ++ drop (kappa_of s) old) ≡ (signature_in form s rec).list =
      take_at (signature_in form s rec).list (drop (kappa_of s) old) (kappa_of s) (length_unpacked (list_bits_of form) (kappa_of s) (part (list_offset_of form) (total_of form s) rec)) in
      cc

pub signature_read : (form : Form) (s : Set) (kappa key : ℕ) (rec list old : List ℕ) (z1 z2 : List ℤ) → kappa ≡ kappa_of s → key ≡ key_in rec
    → (z1 ≡ (signature_in form s rec).z1) × (z2 ≡ (signature_in form s rec).z2) × (list ≡ (signature_in form s rec).list ++ drop (kappa_of s) old)
    → signature s key z1 z2 (take kappa list) ≡ signature_in form s rec
signature_read form s kappa key rec list old z1 z2 e d g =
    let front = list_front form s kappa rec list old e g.2 in
    let p = g.0 in
    let q = g.1 in
    rw (d, p, q, front)

-- and it is what is lent of the vectors that it was read to
pub lent_is : (form : Form) (s set : Set) (k key : ℕ) (rec list held old : List ℕ) (z1 z2 x y : List ℤ)
    → (set ≡ s) × (key ≡ k) × (z1 ≡ x) × (z2 ≡ y) × (list ≡ take (kappa_of s) held) × (length list ≡ kappa_of s) → k ≡ key_in rec
    → (x ≡ (signature_in form s rec).z1) × (y ≡ (signature_in form s rec).z2) × (held ≡ (signature_in form s rec).list ++ drop (kappa_of s) old)
    → signature set key z1 z2 list ≡ signature_in form s rec
lent_is form s set k key rec list held old z1 z2 x y e d u =
    let a = e.0 in
    let b = e.1 in
    let p = e.2 in
    let q = e.3 in
    let l = e.4 in
    rw (a, b, p, q, l) (signature_read form s (kappa_of s) k rec held old x y refl d u)

-- a part of a record is bytes too
pub part_small : (rec : List ℕ) → ((k : ℕ) → get_or rec k 0 < 256) → (from to k : ℕ) → get_or (part from to rec) k 0 < 256
part_small rec small from to = take_small (to - from) (drop from rec) (λ k. rw (get_or-drop from rec k 0) (small (from + k)))

-- ---- answers
pub written_at : (o : Outcome) (out out' : List ℕ) → out ≡ out' → filled o out ≡ filled o out'
written_at o out out' e = cc

-- the two ways to a record, by what the signature is refused for
module _ (form : Form) (s : Set) (key : ℕ) (z1 z2 : List ℤ) (list out : List ℕ) (o : Outcome) (g : o ≡ refusal_for s z1 z2 list) where
  pub refused_record : (e : Refusal) (p : Outcome) → o ≡ Err e → p ≡ Err e → filled p out ≡ recorded_to form (signature s key z1 z2 list) out
  unfolding recorded_to
  refused_record e p t u = rw u (refused o (refusal_for s z1 z2 list) e (λ (q : Outcome). filled q out) (filled (Err e) out) _ g t refl)

  pub put_record : o ≡ Done → (p : Outcome) (now : List ℕ) → filled p now ≡ put_to form (signature s key z1 z2 list) out → filled p now ≡ recorded_to form (signature s key z1 z2 list) out
  unfolding recorded_to
  put_record t p now w = search calls depth 9

-- what a reader answers, told by numbers
abbrev pub told : Result Reading Refusal → Buffers → Found
told r b = found (outcome_of r) (set_told r) (key_told r) b

pub told_refusal : (r : Result Reading Refusal) (e : Refusal) (b : Buffers) → r ≡ Err e → told r b ≡ keeping b (Err e)
told_refusal r e b h = ap (λ (k : Result Reading Refusal). told k b) h

-- the refusal that a `?` hands on
pub handed_on : {A : Type 0} (r : Result A Refusal) (e : Refusal) → IsErrAnd r (λ y. y ≡ e) → r ≡ Err e
handed_on (Ok a) e h = absurd h
handed_on (Err refusal) e h = ap Err h
