use mathlib.Core.Path.{◌≡◌, refl, ap, ◌∙◌}
use mathlib.Core.List.{List, map}
use Rattle.std.proofs.lemmas.List.{map-id}
use Prim.Native.Nat.{ℕ, ◌^◌, ◌<◌}
use lib.ListN.{length, get_or}
use Rattle.byte_codes.specs.Bytes.{packed}
use Rattle.bit_codes.specs.Bits.{packed_bits}
use Rattle.bit_codes.proofs.WholeBytes.{packed_bits_lem}
use Rattle.record_forms.specs.declared.Form.{Form}
use Rattle.record_forms.specs.declared.Form.TheVariants.{Plain}
use Rattle.record_forms.specs.Forms.{list_bits_of}
use Rattle.records.proofs.pack_list.Goals as goal

module _ (form : Form) (list : List ℕ) (e : form ≡ Plain) where
  plain_packs : ((k : ℕ) → get_or list k 0 < 2 ^ list_bits_of form) → (out : List ℕ) → out ≡ packed 2 (map (λ (x : ℕ). x) list) → out ≡ packed_bits (list_bits_of form) (length list) list
  plain_packs small out h = h ∙ ap (packed 2) (map-id list) ∙ packed_bits_lem 2 list (length list) refl (λ k. rw e at (small k)) ∙ rw e

pub returns-in-Plain : goal.returns-in-Plain
returns-in-Plain c = search plain_packs
