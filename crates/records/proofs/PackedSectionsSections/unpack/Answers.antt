use mathlib.Core.Path.{◌≡◌, ap, ◌∙◌}
use mathlib.Core.List.{List, ◌++◌, map}
use Prim.Native.Nat.{ℕ, ◌*◌, ◌-◌, ◌/◌, ◌^◌, ◌≤◌, ◌<◌}
use native.Mathlib.Omega.{arith}
use lib.IntN.{ℤ}
use lib.ListN.{length, take, drop, get_or}
use mir.Syntax.{w8}
use mir.Val.{Fits}
use Rattle.sets.specs.declared.Set.{Set}
use Rattle.sets.specs.Numbers.{list_limit, kappa_of}
use Rattle.byte_codes.specs.Bytes.{from_complement}
use Rattle.bit_codes.specs.Bits.{number, entries_from}
use Rattle.bit_codes.proofs.Digits.{digits_below, length_digits, entries_part, room}
use Rattle.record_forms.specs.declared.Form.TheVariants.{Packed}
use Rattle.record_forms.specs.Forms.{z1_offset, z2_offset_of, list_offset_of, total_of}
use Rattle.records.specs.Signatures.{signature_in}
use Rattle.records.proofs.Buffers.{front_long}
use Rattle.records.proofs.PackedSectionsSections.unpack.Goals as goal

module _ (at w n : ℕ) (rec entries : List ℕ) (e : entries ≡ entries_from at w n rec) where
  entries_below : (k : ℕ) → get_or entries k 0 < 2 ^ w
  entries_below k = rw e (digits_below w n (number 8 rec / 2 ^ at) k)

  entries_long : length entries ≡ n
  entries_long = ap length e ∙ length_digits w n (number 8 rec / 2 ^ at)

module _ (s : Set) (rec : List ℕ) (fit : (k : ℕ) → Fits w8 (get_or rec k 0)) where
  z1_read : (wide : List ℕ) (now : List ℤ) → wide ≡ entries_from 192 13 512 rec → now ≡ map (from_complement 13) wide → now ≡ (signature_in Packed s rec).z1
  z1_read wide now e h = h ∙ ap (map (from_complement 13)) (e ∙ entries_part 13 512 rec (λ k. (fit k).fits) z1_offset (z2_offset_of Packed) (omega arith))

  z2_read : (narrow : List ℕ) (now : List ℤ) → narrow ≡ entries_from 6848 4 512 rec → now ≡ map (from_complement 4) narrow → now ≡ (signature_in Packed s rec).z2
  z2_read narrow now e h = h ∙ ap (map (from_complement 4)) (e ∙ entries_part 4 512 rec (λ k. (fit k).fits) (z2_offset_of Packed) (list_offset_of Packed) (omega arith))

  places_read : (list : List ℕ) (kappa : ℕ) → kappa ≡ kappa_of s → length list ≡ list_limit → (now : List ℕ) → now ≡ entries_from 8896 9 (length (take kappa list)) rec
      → now ++ drop kappa list ≡ (signature_in Packed s rec).list ++ drop (kappa_of s) list
  places_read list kappa f g now e =
      let within : 9 * kappa_of s ≤ 8 * (total_of Packed s - list_offset_of Packed) = omega (arith, room 9 (kappa_of s)) in
      let is : now ≡ (signature_in Packed s rec).list =
      e ∙ rw (← front_long list kappa s f g, f) (entries_part 9 (kappa_of s) rec (λ k. (fit k).fits) (list_offset_of Packed) (total_of Packed s) within) in
      rw (is, f)

pub signed_all-requires : goal.signed_all-requires
signed_all-requires c =
    (omega arith, omega arith, entries_below 192 13 512 c.args.rec.now _ c.sections.ensures.1, omega (arith, entries_long 192 13 512 c.args.rec.now _ c.sections.ensures.1))

pub signed_all-requires-2 : goal.signed_all-requires-2
signed_all-requires-2 c =
    (omega arith, omega arith, entries_below 6848 4 512 c.args.rec.now _ c.sections.ensures.2, omega (arith, entries_long 6848 4 512 c.args.rec.now _ c.sections.ensures.2))

pub returns : goal.returns
returns c = (
  z1_read c.args.s c.args.rec.now c.type_inv.rec _ _ c.sections.ensures.1 c.signed_all.ensures,
  z2_read c.args.s c.args.rec.now c.type_inv.rec _ _ c.sections.ensures.2 c.signed_all-2.ensures,
  places_read c.args.s c.args.rec.now c.type_inv.rec c.args.held.now.list _ c.kappa-kappa.ensures (omega arith) _ c.sections.ensures.3,
)
