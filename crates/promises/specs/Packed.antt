-- 02, C-11: the packed record. Its numbers are held here by what the paper says of them; its round trip and the conversions are records' `RoundTrip` and
-- `Conversions`. The statement is proved in proofs/Packed.antt under its own name.
use Rattle.std.specs.Prelude.{◌≡◌, [], ◌∷◌, map, ◌*◌, ◌-◌, ◌^◌, ◌<◌, ◌≤◌}
use Rattle.sets.specs.declared.Set.{Set}
use Rattle.sets.specs.Numbers.{dimension, Largest, all, d_of, largest_of}
use Rattle.record_forms.specs.declared.Form.{Form}
use Rattle.record_forms.specs.declared.Form.TheVariants.{Packed}
use Rattle.record_forms.specs.Forms.{z1_bits_of, z2_bits_of, list_bits_of, z1_offset, z2_offset_of, list_offset_of, total_of, record_limit_of}

pub record PackedForm : Type 0 where
  -- "Offsets are 24, 856 and 1112, and totals 1138, 1138, 1146 and 1156", and for sets 5 to 8 "1178, 1178, 1205 and 1240" (02, C-22)
  pub offsets : z1_offset ∷ z2_offset_of Packed ∷ list_offset_of Packed ∷ [] ≡ 24 ∷ 856 ∷ 1112 ∷ []
  pub totals : map (total_of Packed) all ≡ 1138 ∷ 1138 ∷ 1146 ∷ 1156 ∷ 1178 ∷ 1178 ∷ 1205 ∷ 1240 ∷ []
  pub longest : (form : Form) → Largest (total_of form) (record_limit_of form)
  -- "z1 takes 13 bits an entry (twelve don't hold 2100), z2 dagger 4, both two's complement, the list 9": as many as every entry fits that the length rule and
  -- the form of the list let pass, one of them for the sign, and with one fewer some entry would not
  pub z1_fits : (s : Set) → largest_of s < 2 ^ (z1_bits_of Packed - 1)
  pub z1_fewest : (s : Set) × (2 ^ (z1_bits_of Packed - 2) ≤ largest_of s)
  pub z2_fits : (s : Set) → largest_of s < 2 ^ (z2_bits_of Packed - 1) * 2 ^ d_of s
  pub z2_fewest : (s : Set) × (2 ^ (z2_bits_of Packed - 2) * 2 ^ d_of s ≤ largest_of s)
  pub list_fits : dimension ≤ 2 ^ list_bits_of Packed
  pub list_fewest : 2 ^ (list_bits_of Packed - 1) < dimension
