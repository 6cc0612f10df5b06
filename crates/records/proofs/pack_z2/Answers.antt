use mathlib.Core.Path.{◌≡◌, refl}
use mathlib.Core.List.{List, map}
use Prim.Native.Nat.{ℕ, ◌*◌, ◌^◌, ◌<◌}
use lib.IntN.{ℤ, pos, nat_abs}
use lib.ListN.{length, get_or}
use Rattle.sets.specs.Numbers.{dimension}
use Rattle.byte_codes.specs.Bytes.{packed, complement}
use Rattle.bit_codes.specs.Bits.{packed_bits}
use Rattle.record_forms.specs.declared.Form.{Form}
use Rattle.record_forms.specs.declared.Form.TheVariants.{Plain}
use Rattle.record_forms.specs.Forms.{z2_bits_of}
use Rattle.records.proofs.Bits.{whole_packs}
use Rattle.records.proofs.pack_z2.Goals as goal

module _ (form : Form) (z : List ℤ) where
  plain_packs : form ≡ Plain → length z ≡ dimension → ((k : ℕ) → 2 * nat_abs (get_or z k (pos 0)) < 2 ^ z2_bits_of form)
      → (out : List ℕ) → out ≡ packed 1 (map (complement 8) z) → out ≡ packed_bits (z2_bits_of form) dimension (map (complement (z2_bits_of form)) z)
  plain_packs e = whole_packs z2_bits_of form Plain z e 1 refl

pub returns-in-Plain : goal.returns-in-Plain
returns-in-Plain c = search plain_packs
