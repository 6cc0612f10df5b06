-- "Bits go low first; each section starts on a byte; spare bits are zero" (02, C-11): the bits of a section's bytes, byte after byte, each from its lowest bit on,
-- are those of its entries, one entry after the other, and then zeros. For entries of any width. Assumes nothing.
use mathlib.Core.Path.{◌≡◌, refl, sym, ap, ap₂, ◌∙◌}
use mathlib.Core.List.{List, [], ◌∷◌, ◌++◌}
use Prim.Native.Nat.{ℕ, zero, suc, ◌+◌, ◌*◌, ◌-◌, ◌/◌, ◌^◌, ◌<◌, ◌≤◌}
use native.Mathlib.Nat.{add_comm, mul-suc, mul-zero, one-mul, le_refl, div-eq_of_lt, lt_of_lt_of_le}
use native.Mathlib.Omega.{arith}
use lib.ListN.{length, get_or, replicate}
use lib.Pow.{pow_mono}
use Rattle.bit_codes.specs.Bits.{number, digits, recoded, bytes_for, packed_bits, bits_of}
use Rattle.bit_codes.proofs.Digits.{lowest, others, digits_below, digits_front, digits_append, length_digits, number_below, number_digits, room}

-- the bits of entries are the binary digits of their number
all_bits : (w : ℕ) (xs : List ℕ) → ((k : ℕ) → get_or xs k 0 < 2 ^ w) → bits_of w xs ≡ digits 1 (w * length xs) (number w xs)
unfolding bits_of number digits
all_bits w [] small = ap (λ (n : ℕ). digits 1 n 0) (sym (mul-zero w))
all_bits w (x ∷ xs) small =
    let rest = number w xs in
    let all = x + 2 ^ w * rest in
    let few : 1 * w ≤ w = rw (one-mul w) (le_refl w) in
    ap₂ ◌++◌
    (ap (digits 1 w) (sym (lowest w x rest (small 0))) ∙ digits_front 1 w w all few)
    (all_bits w xs (λ k. small (suc k)) ∙ ap (digits 1 (w * length xs)) (sym (ap (λ (n : ℕ). all / 2 ^ n) (one-mul w) ∙ others w x rest (small 0))))
    ∙ sym (digits_append 1 w (w * length xs) all)
    ∙ ap (λ (n : ℕ). digits 1 n all) (add_comm w (w * length xs) ∙ sym (mul-suc w (length xs)))

zeros : (n : ℕ) → digits 1 n 0 ≡ replicate n 0
unfolding digits
zeros zero = refl
zeros (suc n) = ap (λ (l : List ℕ). 0 ∷ l) (zeros n)

pub low_first : (w count : ℕ) (entries : List ℕ) → length entries ≡ count → ((k : ℕ) → get_or entries k 0 < 2 ^ w)
    → bits_of 8 (packed_bits w count entries) ≡ bits_of w entries ++ replicate (8 * bytes_for (w * count) - w * count) 0
unfolding recoded
low_first w count entries long small =
    let bytes = bytes_for (w * count) in
    let x = number w entries in
    let below : x < 2 ^ (w * count) = rw (← long) (number_below w entries small) in
    let fits : x < 2 ^ (8 * bytes) = lt_of_lt_of_le below (pow_mono (room w count)) in
    let spare = 8 * bytes - w * count in
    let whole : 8 * bytes ≡ w * count + spare = omega (arith, room w count) in
    all_bits 8 (digits 8 bytes x) (digits_below 8 bytes x)
    ∙ ap₂ (λ (n y : ℕ). digits 1 (8 * n) y) (length_digits 8 bytes x) (number_digits 8 bytes x fits)
    ∙ ap (λ (n : ℕ). digits 1 n x) whole
    ∙ digits_append 1 (w * count) spare x
    ∙ ap₂ ◌++◌
    (ap (λ (n : ℕ). digits 1 (w * n) x) (sym long) ∙ sym (all_bits w entries small))
    (ap (digits 1 spare) (ap (λ (n : ℕ). x / 2 ^ n) (one-mul (w * count)) ∙ div-eq_of_lt below) ∙ zeros spare)
