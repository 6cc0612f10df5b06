-- Entries of whole bytes: byte_codes' sections, byte after byte with the low byte first (01, "The record"), are those of eight times as many bits.
-- Assumes nothing.
use mathlib.Core.Path.{◌≡◌, refl, sym, ap, ap₂, ◌∙◌}
use mathlib.Core.List.{List, [], ◌∷◌, ◌++◌}
use Prim.Native.Nat.{ℕ, zero, suc, ◌+◌, ◌*◌, ◌/◌, ◌^◌, ◌<◌}
use native.Mathlib.Nat.{mul_assoc, mul-suc, mul-zero, add_comm, le_refl}
use native.Mathlib.Omega.{arith}
use lib.ListN.{length, get_or, take, drop}
use lib.Seq.{get_or-drop}
use Rattle.byte_codes.specs.Bytes.{packed, unpacked}
use Rattle.bit_codes.specs.Bits.{number, digits, recoded, bytes_for, packed_bits, unpacked_bits}
use Rattle.bit_codes.proofs.Digits.{number_8, digits_8, number_from, number_front, digits_front, digits_append, lowest, others}

whole : (n count : ℕ) → bytes_for (8 * n * count) ≡ n * count
whole n count = ap bytes_for (mul_assoc 8 n count) ∙ exact (n * count)
  where
    exact : (m : ℕ) → (8 * m + 7) / 8 ≡ m
    exact m = omega arith

module _ (n : ℕ) where
  packed_digits : (entries : List ℕ) → ((k : ℕ) → get_or entries k 0 < 2 ^ (8 * n)) → packed n entries ≡ digits 8 (n * length entries) (number (8 * n) entries)
  unfolding packed number digits
  packed_digits [] small = ap (λ (k : ℕ). digits 8 k 0) (sym (mul-zero n))
  packed_digits (x ∷ entries) small =
      let rest = number (8 * n) entries in
      let all = x + 2 ^ (8 * n) * rest in
      ap₂ ◌++◌
      (sym (digits_8 n x) ∙ ap (digits 8 n) (sym (lowest (8 * n) x rest (small 0))) ∙ digits_front 8 n (8 * n) all (le_refl (8 * n)))
      (packed_digits entries (λ k. small (suc k)) ∙ ap (digits 8 (n * length entries)) (sym (others (8 * n) x rest (small 0))))
      ∙ sym (digits_append 8 n (n * length entries) all)
      ∙ ap (λ (k : ℕ). digits 8 k all) (add_comm n (n * length entries) ∙ sym (mul-suc n (length entries)))

  pub packed_bits_lem : (entries : List ℕ) (count : ℕ) → length entries ≡ count → ((k : ℕ) → get_or entries k 0 < 2 ^ (8 * n)) → packed n entries ≡ packed_bits (8 * n) count entries
  unfolding recoded
  packed_bits_lem entries count long small =
      packed_digits entries small
      ∙ ap (λ (k : ℕ). digits 8 k (number (8 * n) entries)) (ap (λ (k : ℕ). n * k) long ∙ sym (whole n count))

  pub unpacked_bits_lem : (count : ℕ) (bytes : List ℕ) → ((k : ℕ) → get_or bytes k 0 < 2 ^ 8) → unpacked n count bytes ≡ unpacked_bits (8 * n) count bytes
  unfolding unpacked recoded digits
  unpacked_bits_lem zero bytes small = refl
  unpacked_bits_lem (suc count) bytes small =
      ap₂ ◌∷◌
      (sym (number_8 (take n bytes)) ∙ sym (number_front 8 n bytes small))
      (unpacked_bits_lem count (drop n bytes) (λ k. rw (get_or-drop n bytes k 0) (small (n + k))) ∙ ap (digits (8 * n) count) (sym (number_from 8 bytes n small)))
