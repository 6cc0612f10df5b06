-- What holds of the numbers of both forms: nothing outside this file goes by the form. Assumes nothing.
use mathlib.Core.Path.{◌≡◌, refl, ap}
use Prim.Native.Nat.{ℕ, ◌+◌, ◌*◌, ◌≤◌}
use native.Mathlib.Nat.{mul-le-mul, mul-le-mul_left}
use native.Mathlib.Omega.{arith}
use lib.Dec.{lit≤}
use Rattle.sets.specs.declared.Set.{Set}
use Rattle.sets.specs.Numbers.{dimension, list_limit, Largest, kappa_of}
use Rattle.sets.proofs.Alike.{kappa_within, list_limit_lem}
use Rattle.bit_codes.specs.Bits.{bytes_for}
use Rattle.record_forms.specs.declared.Form.{Form}
use Rattle.record_forms.specs.declared.Form.TheVariants.{Plain, Packed}
use Rattle.record_forms.specs.Forms.{z1_bits_of, z2_bits_of, list_bits_of, z1_offset, z2_offset_of, list_offset_of, total_of, record_limit_of}

-- each section starts where the one before it ends
pub z2_after_z1 : (form : Form) → z2_offset_of form ≡ z1_offset + bytes_for (z1_bits_of form * dimension)
z2_after_z1 form = elim form as (λ k. z2_offset_of k ≡ z1_offset + bytes_for (z1_bits_of k * dimension)) [ Plain ↦ refl | Packed ↦ refl ]

pub list_after_z2 : (form : Form) → list_offset_of form ≡ z2_offset_of form + bytes_for (z2_bits_of form * dimension)
list_after_z2 form = elim form as (λ k. list_offset_of k ≡ z2_offset_of k + bytes_for (z2_bits_of k * dimension)) [ Plain ↦ refl | Packed ↦ refl ]

pub z2_after : (form : Form) → z1_offset ≤ z2_offset_of form
z2_after form = omega (arith, z2_after_z1 form)

pub list_after : (form : Form) → z2_offset_of form ≤ list_offset_of form
list_after form = omega (arith, list_after_z2 form)

pub list_early : (form : Form) → list_offset_of form ≤ 1560
list_early form = elim form as (λ k. list_offset_of k ≤ 1560) [ Plain ↦ lit≤ tt | Packed ↦ lit≤ tt ]

-- the bits of an entry
pub list_bits_enough : (form : Form) → 9 ≤ list_bits_of form
list_bits_enough form = elim form as (λ k. 9 ≤ list_bits_of k) [ Plain ↦ lit≤ tt | Packed ↦ lit≤ tt ]

pub list_bits_few : (form : Form) → list_bits_of form ≤ 16
list_bits_few form = elim form as (λ k. list_bits_of k ≤ 16) [ Plain ↦ lit≤ tt | Packed ↦ lit≤ tt ]

pub z1_bits_enough : (form : Form) → 13 ≤ z1_bits_of form
z1_bits_enough form = elim form as (λ k. 13 ≤ z1_bits_of k) [ Plain ↦ lit≤ tt | Packed ↦ lit≤ tt ]

pub z2_bits_enough : (form : Form) → 4 ≤ z2_bits_of form
z2_bits_enough form = elim form as (λ k. 4 ≤ z2_bits_of k) [ Plain ↦ lit≤ tt | Packed ↦ lit≤ tt ]

-- z1 and z2 dagger have no spare bits
pub z1_whole : (form : Form) → 8 * bytes_for (z1_bits_of form * dimension) ≡ z1_bits_of form * dimension
z1_whole form = elim form as (λ k. 8 * bytes_for (z1_bits_of k * dimension) ≡ z1_bits_of k * dimension) [ Plain ↦ refl | Packed ↦ refl ]

pub z2_whole : (form : Form) → 8 * bytes_for (z2_bits_of form * dimension) ≡ z2_bits_of form * dimension
z2_whole form = elim form as (λ k. 8 * bytes_for (z2_bits_of k * dimension) ≡ z2_bits_of k * dimension) [ Plain ↦ refl | Packed ↦ refl ]

-- ---- the totals
module _ (form : Form) where
  pub list_few : (s : Set) → list_bits_of form * kappa_of s ≤ 16 * list_limit
  list_few s = mul-le-mul (list_bits_few form) (kappa_within s)

  pub after_list : (s : Set) → list_offset_of form ≤ total_of form s
  after_list s = omega arith

  pub total_within : (s : Set) → total_of form s ≤ record_limit_of form
  total_within s = let more : list_bits_of form * kappa_of s ≤ list_bits_of form * list_limit = mul-le-mul_left (list_bits_of form) (kappa_within s) in omega arith

  pub record_limit : Largest (total_of form) (record_limit_of form)
  record_limit = (total_within, (list_limit_lem.1.0, ap (λ (n : ℕ). list_offset_of form + bytes_for (list_bits_of form * n)) list_limit_lem.1.1))
