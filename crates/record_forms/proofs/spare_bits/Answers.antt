use Rattle.std.proofs.Common.{◌≡◌, refl, sym, ap, ◌∙◌, Bool, true, false, List, ℕ, ◌*◌, ◌-◌, ◌^◌, length, Ok}
use lib.Dec.{ltb}
use Rattle.sets.specs.declared.Set.{Set}
use Rattle.sets.specs.Numbers.{kappa_of}
use Rattle.bit_codes.specs.Bits.{number}
use Rattle.record_forms.specs.declared.Form.{Form}
use Rattle.record_forms.specs.Forms.{list_bits_of, list_offset_of, total_of}
use Rattle.record_forms.specs.Headers.{malformed, part, is_spare_clear, spare_bits}
use Rattle.record_forms.proofs.spare_bits.Goals as goal

module _ (form : Form) (s : Set) (rec : List ℕ) (from bits : ℕ) (r : Bool) (long : length rec ≡ total_of form s) (e : from ≡ list_offset_of form) (f : bits ≡ list_bits_of form * kappa_of s)
    (g : r ≡ ltb (number 8 (part from (length rec) rec)) (2 ^ bits)) where
  tells : r ≡ is_spare_clear form s rec
  tells = g ∙ rw (e, f) (ap (λ (n : ℕ). ltb (number 8 (part (list_offset_of form) n rec)) (2 ^ (list_bits_of form * kappa_of s))) long)

  set : r ≡ false → malformed (length rec - 1) ≡ spare_bits form s rec
  unfolding spare_bits
  set t = rw (sym tells ∙ t, long) refl

  clear : r ≡ true → Ok s ≡ spare_bits form s rec
  unfolding spare_bits
  clear t = rw (sym tells ∙ t) refl

pub returns-then-not-spare_clear : goal.returns-then-not-spare_clear
returns-then-not-spare_clear c = search set

pub returns : goal.returns
returns c = search clear
