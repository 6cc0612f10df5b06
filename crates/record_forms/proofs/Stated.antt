-- A header states a set exactly where the record has the set's total, opens with the set's fields, whatever the key number after them is, and has no spare bit set.
-- Assumes nothing.
use mathlib.Core.Path.{◌≡◌, refl, sym, ap, ap₂, ◌∙◌}
use mathlib.Core.Bool.{Bool, true}
use mathlib.Core.List.{List, [], ◌∷◌, ◌++◌}
use Prim.Native.Nat.{ℕ, zero, suc, ◌+◌, ◌*◌, ◌-◌, ◌%◌, ◌^◌, ◌<◌, ◌≤◌}
use native.Mathlib.Nat.{mod-eq_of_lt, le_of_eq}
use native.Mathlib.Omega.{arith}
use borrow.Author.Tests.{eq-eqb, eqb-true, le-leb, leb-true, lt-ltb, ltb-true}
use lib.Dec.{eqb, leb, lit<, lit≤}
use lib.ListN.{length, take, drop, get_or}
use lib.Seq.{take-suc, take_all, take-take, get_or-take}
use Rattle.laws.specs.Lists.{same}
use Rattle.laws.specs.Refusals.{must}
use Rattle.laws.proofs.Chain.{through}
use Rattle.laws.proofs.Loops.{is_same}
use Rattle.sets.specs.declared.Set.{Set}
use Rattle.std.specs.Prelude.{Option, Some, None, Ok}
use Rattle.sets.specs.Numbers.{kappa_of, set_number_of, named_of}
use Rattle.sets.proofs.Alike.{number_small, named_back, named_is}
use Rattle.answers.specs.Outcomes.{for_set}
use Rattle.byte_codes.specs.Bytes.{bytes_of}
use Rattle.bit_codes.specs.Bits.{number}
use Rattle.record_forms.specs.declared.Form.{Form}
use Rattle.record_forms.specs.declared.Form.TheVariants.{Plain, Packed}
use Rattle.record_forms.specs.Forms.{letters_of, list_bits_of, key_offset, header_length, list_offset_of, total_of}
use Rattle.record_forms.specs.Headers.{Header, malformed, fields_of, part, agree, is_spare_clear, spare_bits, set_fields, fields_after, header_in}
use Rattle.record_forms.proofs.Forms.{z2_after, list_after}
use Rattle.record_forms.proofs.Agreement.{agree_further}

pub record Stated (form : Form) (s : Set) (rec : List ℕ) : Type 0 where
  pub total : length rec ≡ total_of form s
  pub front : take key_offset rec ≡ fields_of form s
  pub spare : number 8 (part (list_offset_of form) (total_of form s) rec) < 2 ^ (list_bits_of form * kappa_of s)

-- ---- a chain that states a set passed each test
passed : {s : Set} (place : ℕ) (next : Header) (test : Bool) → must test (malformed place) next ≡ Ok s → (test ≡ true) × (next ≡ Ok s)
passed {s} place next test = through test (malformed place) next (Ok s) (λ t e. never e)
  where
    never : malformed place ≡ Ok s → ⊥
    never h = let z : ◌≡◌ {A = ℕ} 0 1 = cc in omega arith

-- ---- there

letters_whole : (form : Form) → take 4 (letters_of form) ≡ letters_of form
letters_whole form = elim form as (λ k. take 4 (letters_of k) ≡ letters_of k) [ Plain ↦ refl | Packed ↦ refl ]

opens : (form : Form) (s : Set) → take 4 (fields_of form s) ≡ letters_of form
unfolding fields_of
opens form s = elim form as (λ k. take 4 (fields_of k s) ≡ letters_of k) [ Plain ↦ refl | Packed ↦ refl ]

-- a set's number is its own byte
pub number_byte : (s : Set) → set_number_of s % 256 ≡ set_number_of s
number_byte s = mod-eq_of_lt (number_small s)

number_at_four : (form : Form) (s : Set) → get_or (fields_of form s) 4 0 ≡ set_number_of s
unfolding fields_of bytes_of
number_at_four form s = elim form as (λ k. get_or (fields_of k s) 4 0 ≡ set_number_of s) [ Plain ↦ number_byte s | Packed ↦ number_byte s ]

opens_further : (form : Form) (s : Set) → take 5 (fields_of form s) ≡ letters_of form ++ (set_number_of s ∷ [])
unfolding fields_of bytes_of
opens_further form s = further form ∙ ap (λ (n : ℕ). letters_of form ++ (n ∷ [])) (number_byte s)
  where
    further : (form : Form) → take 5 (fields_of form s) ≡ letters_of form ++ (set_number_of s % 256 ∷ [])
    further form = elim form as (λ k. take 5 (fields_of k s) ≡ letters_of k ++ (set_number_of s % 256 ∷ [])) [ Plain ↦ refl | Packed ↦ refl ]

pub fields_long : (form : Form) (s : Set) → length (fields_of form s) ≡ key_offset
unfolding fields_of bytes_of
fields_long form s = elim form as (λ k. length (fields_of k s) ≡ key_offset) [ Plain ↦ refl | Packed ↦ refl ]

whole : (form : Form) (s : Set) → take key_offset (fields_of form s) ≡ fields_of form s
whole form s = take_all key_offset (fields_of form s) (le_of_eq (fields_long form s))

module _ {s : Set} (form : Form) (rec : List ℕ) where
  -- one field more
  field : (from to : ℕ) (fields : List ℕ) (next : Header) → from ≤ to → take from rec ≡ take from fields
      → must (agree from to rec fields) (malformed from) next ≡ Ok s → (take to rec ≡ take to fields) × (next ≡ Ok s)
  field from to fields next h front e =
      let (same, rest) = passed from next (agree from to rec fields) e in
      (agree_further from to rec fields h front same, rest)

  spare_stated : (s' : Set) → length rec ≡ total_of form s' → take key_offset rec ≡ fields_of form s' → spare_bits form s' rec ≡ Ok s → Stated form s rec
  unfolding spare_bits
  spare_stated s' long front e =
      let (clear, last) = passed (total_of form s' - 1) _ (is_spare_clear form s' rec) e in
      let same : s' ≡ s = cc in
      rw (← same) (record { total = long; front = front; spare = ltb-true _ _ clear })

  set_fields_stated : (s' : Set) → take 14 rec ≡ take 14 (fields_of form s') → set_fields form s' (fields_of form s') rec ≡ Ok s → Stated form s rec
  unfolding set_fields
  set_fields_stated s' f14 e14 =
      let (f16, e16) = field 14 16 (fields_of form s') _ (lit≤ tt) f14 e14 in
      let (f18, e18) = field 16 18 (fields_of form s') _ (lit≤ tt) f16 e16 in
      let (f20, e18') = field 18 key_offset (fields_of form s') _ (lit≤ tt) f18 e18 in
      let (long, e) = passed 18 _ (eqb (length rec) (total_of form s')) e18' in
      spare_stated s' (eqb-true _ _ long) (f20 ∙ whole form s') e

  fields_stated : (s' : Set) → take 5 rec ≡ take 5 (fields_of form s') → fields_after form s' (fields_of form s') rec ≡ Ok s → Stated form s rec
  unfolding fields_after
  fields_stated s' f5 e5 =
      let (f6, e6) = field 5 6 (fields_of form s') _ (lit≤ tt) f5 e5 in
      let (f8, e8) = field 6 8 (fields_of form s') _ (lit≤ tt) f6 e6 in
      let (f10, e10) = field 8 10 (fields_of form s') _ (lit≤ tt) f8 e8 in
      let (f12, e12) = field 10 12 (fields_of form s') _ (lit≤ tt) f10 e10 in
      let (f14, e14) = field 12 14 (fields_of form s') _ (lit≤ tt) f12 e12 in
      set_fields_stated s' f14 e14

  named_stated : take 4 rec ≡ letters_of form → header_length ≤ length rec → (a : Option Set) → named_of (get_or rec 4 0) ≡ a
      → for_set a (malformed 4) (λ s'. fields_after form s' (fields_of form s') rec) ≡ Ok s → Stated form s rec
  named_stated f4 h None n e = absurd (never e)
    where
      never : malformed 4 ≡ Ok s → ⊥
      never e = let z : ◌≡◌ {A = ℕ} 0 1 = cc in omega arith
  named_stated f4 h (Some s') n e =
      let inside : 4 < length rec = omega arith in
      let f5 : take 5 rec ≡ take 5 (fields_of form s') =
      take-suc rec 4 0 inside ∙ ap₂ (λ (l : List ℕ) (x : ℕ). l ++ (x ∷ [])) f4 (named_is s' _ n) ∙ sym (opens_further form s') in
      fields_stated s' f5 e

  pub stated : header_in form rec ≡ Ok s → Stated form s rec
  unfolding header_in
  stated e =
      let (long, e0) = passed (length rec) _ (leb header_length (length rec)) e in
      let (f4, e4) = field 0 4 (letters_of form) _ (lit≤ tt) refl e0 in
      named_stated (f4 ∙ letters_whole form) (leb-true _ _ long) _ refl e4

-- ---- and back
pub part_take : (from count n : ℕ) (l : List ℕ) → from + count ≤ n → take count (drop from (take n l)) ≡ take count (drop from l)
part_take zero count n l h = let k : count ≤ n = omega arith in take-take count n l k
part_take (suc from) count zero l h = absurd (none h)
  where
    none : suc from + count ≤ 0 → ⊥
    none h = omega arith
part_take (suc from) count (suc n) [] h = refl
part_take (suc from) count (suc n) (x ∷ l) h = part_take from count n l (omega arith)

module _ {form : Form} {s : Set} {rec : List ℕ} (so : Stated form s rec) where
  agrees_there : (from to : ℕ) → from ≤ to → to ≤ key_offset → agree from to rec (fields_of form s) ≡ true
  agrees_there from to h k =
      let within : from + (to - from) ≤ key_offset = omega arith in
      ap (λ (l : List ℕ). same l (part from to (fields_of form s))) (sym (part_take from (to - from) key_offset rec within) ∙ ap (part from to) so.front)
      ∙ is_same (part from to (fields_of form s))

  letters_there : agree 0 4 rec (letters_of form) ≡ true
  letters_there =
      ap₂ same (sym (take-take 4 key_offset rec (lit≤ tt)) ∙ ap (take 4) so.front ∙ opens form s) (letters_whole form) ∙ is_same (letters_of form)

  named_there : named_of (get_or rec 4 0) ≡ Some s
  named_there =
      ap named_of (sym (get_or-take key_offset rec 4 0 (lit< tt)) ∙ ap (λ (l : List ℕ). get_or l 4 0) so.front ∙ number_at_four form s) ∙ named_back s

  pub states_back : header_in form rec ≡ Ok s
  unfolding header_in fields_after set_fields spare_bits
  states_back =
      let long : header_length ≤ length rec = omega (arith, so.total, z2_after form, list_after form) in
      rw (
        le-leb _ _ long,
        letters_there,
        named_there,
        agrees_there 5 6 (lit≤ tt) (lit≤ tt),
        agrees_there 6 8 (lit≤ tt) (lit≤ tt),
        agrees_there 8 10 (lit≤ tt) (lit≤ tt),
        agrees_there 10 12 (lit≤ tt) (lit≤ tt),
        agrees_there 12 14 (lit≤ tt) (lit≤ tt),
        agrees_there 14 16 (lit≤ tt) (lit≤ tt),
        agrees_there 16 18 (lit≤ tt) (lit≤ tt),
        agrees_there 18 key_offset (lit≤ tt) (lit≤ tt),
        eq-eqb _ _ so.total,
        lt-ltb _ _ so.spare,
      )
