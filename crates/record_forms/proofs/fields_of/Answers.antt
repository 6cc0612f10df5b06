use Rattle.std.proofs.Common.{◌≡◌, refl, sym, ap, ◌∙◌, List, [], ◌∷◌, ◌++◌, ℕ, ◌%◌}
use borrow.Rule.Slice.PartMut.{put_mid}
use lib.ListN.{set as update}
use Rattle.sets.specs.declared.Set.{Set}
use Rattle.sets.specs.Numbers.{dimension, kappa_of, set_number_of}
use Rattle.byte_codes.specs.Bytes.{bytes_of, packed}
use Rattle.record_forms.specs.declared.Form.{Form}
use Rattle.record_forms.specs.declared.Form.TheVariants.{Plain, Packed}
use Rattle.record_forms.specs.Forms.{letters_of, z1_offset, z2_offset_of, list_offset_of, total_of}
use Rattle.record_forms.specs.Headers.{fields_of}
use Rattle.record_forms.proofs.Stated.{number_byte}
use Rattle.record_forms.proofs.fields_of.Goals as goal

-- letters, the set's number and seven numbers of two bytes, each in its place
abbrev built : List ℕ → ℕ → List ℕ → List ℕ
built letters number numbers =
    put_mid 6 14 (update (letters ++ (0 ∷ 0 ∷ 0 ∷ 0 ∷ 0 ∷ 0 ∷ 0 ∷ 0 ∷ 0 ∷ 0 ∷ 0 ∷ 0 ∷ 0 ∷ 0 ∷ 0 ∷ 0 ∷ [])) 4 number) numbers

module _ (form : Form) (s : Set) where
  built_is : built (letters_of form) (set_number_of s) (packed 2 (dimension ∷ z1_offset ∷ dimension ∷ z2_offset_of form ∷ kappa_of s ∷ list_offset_of form ∷ total_of form s ∷ [])) ≡ fields_of form s
  unfolding fields_of bytes_of packed
  built_is =
      ap (λ (number : ℕ). built (letters_of form) number (packed 2 (dimension ∷ z1_offset ∷ dimension ∷ z2_offset_of form ∷ kappa_of s ∷ list_offset_of form ∷ total_of form s ∷ []))) (sym (number_byte s))
      ∙ elim form as (λ k. built (letters_of k) (set_number_of s % 256) (packed 2 (dimension ∷ z1_offset ∷ dimension ∷ z2_offset_of k ∷ kappa_of s ∷ list_offset_of k ∷ total_of k s ∷ [])) ≡ fields_of k s) [ Plain ↦ refl | Packed ↦ refl ]

  built_at : (letters numbers : List ℕ) (number z2 kappa list total : ℕ) → letters ≡ letters_of form → number ≡ set_number_of s
      → numbers ≡ packed 2 (dimension ∷ z1_offset ∷ dimension ∷ z2 ∷ kappa ∷ list ∷ total ∷ [])
      → z2 ≡ z2_offset_of form → kappa ≡ kappa_of s → list ≡ list_offset_of form → total ≡ total_of form s
      → built letters number numbers ≡ fields_of form s
  built_at letters numbers number z2 kappa list total a b c d e f g = rw (a, b, c, d, e, f, g) built_is

pub returns : goal.returns
returns c =
    built_at c.args.form c.args.s _ _ _ _ _ _ _ (c.copy_from_slice.ensures.after ∙ c.letters.ensures) c.number.ensures c.pack.ensures
    c.z2_offset.ensures c.kappa.ensures c.list_offset.ensures c.total.ensures
