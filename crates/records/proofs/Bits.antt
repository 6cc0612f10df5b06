-- Whole numbers on their way to a section: their bits, an entry each, and the section by the form that was told. Assumes nothing.
use mathlib.Core.Path.{◌≡◌, ap, ◌∙◌}
use mathlib.Core.List.{List, map}
use Prim.Native.Nat.{ℕ, ◌*◌, ◌^◌, ◌≤◌, ◌<◌}
use native.Mathlib.Omega.{arith}
use lib.IntN.{ℤ, pos, nat_abs}
use lib.ListN.{length, get_or, length-map}
use Rattle.sets.specs.Numbers.{dimension}
use Rattle.byte_codes.specs.Bytes.{packed, complement}
use Rattle.bit_codes.specs.Bits.{bytes_for, packed_bits}
use Rattle.bit_codes.proofs.Signs.{codes_below, whole_numbers}
use Rattle.record_forms.specs.declared.Form.{Form}

module _ {A : Type 0} (value : A → ℤ) (none : A) (width : ℕ) (z : List A) (bits : List ℕ) (long : length z ≡ dimension) (e : bits ≡ map (λ (x : A). complement width (value x)) z) where
  bits_long : length bits ≡ dimension
  bits_long = ap length e ∙ length-map z (λ (x : A). complement width (value x)) ∙ long

  pub below : ((k : ℕ) → 2 * nat_abs (value (get_or z k none)) < 2 ^ width) → (k : ℕ) → get_or bits k 0 < 2 ^ width
  below small k = rw e (codes_below width dimension value none z small k)

  pub few : length bits ≤ 65536
  few = omega (arith, bits_long)

  pub room : (n : ℕ) → n ≡ bytes_for (width * dimension) → n ≡ bytes_for (width * length bits)
  room n h = rw bits_long h

  pub packs : (out : List ℕ) → out ≡ packed_bits width (length bits) bits → out ≡ packed_bits width dimension (map (λ (x : A). complement width (value x)) z)
  packs out h = h ∙ rw (bits_long, e)

-- ---- a section that has so many bits in each form (`bits`), of entries that fit them
module _ (bits : Form → ℕ) (form told : Form) (z : List ℤ) (e : form ≡ told) where
  pub told_small : ((k : ℕ) → 2 * nat_abs (get_or z k (pos 0)) < 2 ^ bits form) → (k : ℕ) → 2 * nat_abs (get_or z k (pos 0)) < 2 ^ bits told
  told_small small k = rw e at (small k)

  pub told_packs : (out : List ℕ) → out ≡ packed_bits (bits told) dimension (map (complement (bits told)) z) → out ≡ packed_bits (bits form) dimension (map (complement (bits form)) z)
  told_packs out h = h ∙ rw e

  -- of n bytes an entry
  pub whole_packs : (n : ℕ) → bits told ≡ 8 * n → length z ≡ dimension → ((k : ℕ) → 2 * nat_abs (get_or z k (pos 0)) < 2 ^ bits form)
      → (out : List ℕ) → out ≡ packed n (map (complement (8 * n)) z) → out ≡ packed_bits (bits form) dimension (map (complement (bits form)) z)
  whole_packs n w long small out h = told_packs out (h ∙ whole_numbers n dimension z long (λ k. rw w at (told_small small k)) ∙ rw w)
