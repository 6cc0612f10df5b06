-- Two's complement in w bits by that in v, and sections of whole numbers there and back, once for every width. Assumes nothing.
use mathlib.Core.Path.{◌≡◌, refl, sym, ap, ap₂, ◌∙◌}
use mathlib.Core.List.{List, [], ◌∷◌, map}
use Prim.Native.Nat.{ℕ, zero, suc, ◌+◌, ◌*◌, ◌-◌, ◌%◌, ◌^◌, ◌<◌, ◌≤◌}
use native.Mathlib.Nat.{mod-eq_of_lt, suc-mul, pow-succ'}
use native.Mathlib.Omega.{arith}
use lib.Dec.{ltb, ltb→lt, nltb→le}
use lib.Signed.{mag}
use Rattle.laws.proofs.Bounds.{cond_ind}
use lib.IntN.{ℤ, pos, negsuc, nat_abs}
use lib.ListN.{length, get_or, length-map}
use lib.Pow.{pow-add, pow_mono, pow_pos, suc_ones, low}
use Rattle.byte_codes.specs.Bytes.{packed, complement, from_complement}
use Rattle.byte_codes.proofs.Complement.{from_complement_low, from_complement_high, from_complement_complement, complement_from_complement, complement_below}
use Rattle.bit_codes.specs.Bits.{number, bytes_for, packed_bits, unpacked_bits, recoded}
use Rattle.bit_codes.proofs.WholeBytes.{packed_bits_lem}
use Rattle.bit_codes.proofs.Digits.{unpacked_packed, packed_unpacked, digits_below}

borrows : (p q m : ℕ) → m ≤ q → suc p * q - m ≡ p * q + (q - m)
borrows p q m h = rw (suc-mul p q) (omega arith)

module _ (v w : ℕ) (hw : w ≤ v) where
  pub complement_low : (z : ℤ) → 2 * nat_abs z < 2 ^ w → complement v z % 2 ^ w ≡ complement w z
  unfolding complement
  complement_low (pos n) h = mod-eq_of_lt (omega arith)
  complement_low (negsuc n) h =
      let split : v ≡ v - w + w = omega arith in
      let inside : suc n ≤ 2 ^ w = omega arith in
      let less : 2 ^ w - suc n < 2 ^ w = omega (arith, pow_pos w) in
      ap (λ (k : ℕ). (k - suc n) % 2 ^ w) (ap (λ (k : ℕ). 2 ^ k) split ∙ pow-add 2 (v - w) w ∙ ap (λ (k : ℕ). k * 2 ^ w) (sym (suc_ones (v - w))))
      ∙ ap (λ (k : ℕ). k % 2 ^ w) (borrows (2 ^ (v - w) - 1) (2 ^ w) (suc n) inside)
      ∙ low (2 ^ (v - w) - 1) w less

  module _ (one : 1 ≤ w) where
    pub halves : 2 * 2 ^ (w - 1) ≡ 2 ^ w
    halves = let back : suc (w - 1) ≡ w = omega arith in sym (pow-succ' 2 (w - 1)) ∙ ap (λ (k : ℕ). 2 ^ k) back

    pub halves_below : 2 * 2 ^ (w - 1) ≤ 2 ^ v
    halves_below = rw halves (pow_mono hw)

    pub from_complement_wide : (x : ℕ) → x < 2 ^ (w - 1) → from_complement v x ≡ from_complement w x
    from_complement_wide x h = from_complement_low v x (omega (arith, halves_below)) ∙ sym (from_complement_low w x (omega (arith, halves)))

    pub from_complement_moved : (x : ℕ) → 2 ^ (w - 1) ≤ x → x < 2 ^ w → from_complement v (2 ^ v - 2 * 2 ^ (w - 1) + x) ≡ from_complement w x
    from_complement_moved x h k =
        from_complement_high v (2 ^ v - 2 * 2 ^ (w - 1) + x) (omega (arith, halves, halves_below))
        ∙ ap negsuc (omega (arith, halves, halves_below)) ∙ sym (from_complement_high w x (omega (arith, halves)))

    -- so that w bits fit as many bits of a wider type
    pub from_complement_mag : (x : ℕ) → x < 2 ^ w → mag (from_complement w x) < 2 ^ (v - 1)
    unfolding from_complement
    from_complement_mag x h =
        let most : w - 1 ≤ v - 1 = omega arith in
        let room : 2 ^ (w - 1) ≤ 2 ^ (v - 1) = pow_mono most in
        cond_ind (ltb (2 * x) (2 ^ w)) (pos x) (negsuc (2 ^ w - suc x)) (λ z. mag z < 2 ^ (v - 1))
        (λ low. omega (arith, halves, room, ltb→lt (2 * x) (2 ^ w) low))
        (λ high. omega (arith, halves, room, nltb→le (2 * x) (2 ^ w) high))

-- what goes there and back entry by entry does so as a whole
map_back : {A B : Type 0} (f : A → B) (g : B → A) (l : List A) (d : A) → ((k : ℕ) → g (f (get_or l k d)) ≡ get_or l k d) → map g (map f l) ≡ l
map_back f g [] d at = refl
map_back f g (x ∷ l) d at = ap₂ ◌∷◌ (at 0) (map_back f g l d (λ k. at (suc k)))

module _ (w count : ℕ) where
  pub codes_below : {A : Type 0} (value : A → ℤ) (none : A) (entries : List A) → ((k : ℕ) → 2 * nat_abs (value (get_or entries k none)) < 2 ^ w) → (k : ℕ)
      → get_or (map (λ (x : A). complement w (value x)) entries) k 0 < 2 ^ w
  codes_below value none [] small k = pow_pos w
  codes_below value none (x ∷ entries) small zero = complement_below w (value x) (small 0)
  codes_below value none (x ∷ entries) small (suc k) = codes_below value none entries (λ j. small (suc j)) k

  pub complements_below : (entries : List ℤ) → ((k : ℕ) → 2 * nat_abs (get_or entries k (pos 0)) < 2 ^ w) → (k : ℕ) → get_or (map (complement w) entries) k 0 < 2 ^ w
  complements_below = codes_below (λ (z : ℤ). z) (pos 0)

  pub numbers_back : (entries : List ℤ) → length entries ≡ count → ((k : ℕ) → 2 * nat_abs (get_or entries k (pos 0)) < 2 ^ w)
      → map (from_complement w) (unpacked_bits w count (packed_bits w count (map (complement w) entries))) ≡ entries
  numbers_back entries long small =
      ap (map (from_complement w)) (unpacked_packed w count (map (complement w) entries) (length-map entries (complement w) ∙ long) (complements_below entries small))
      ∙ map_back (complement w) (from_complement w) entries (pos 0) (λ k. from_complement_complement w (get_or entries k (pos 0)) (small k))

  pub bytes_back : (bytes : List ℕ) → length bytes ≡ bytes_for (w * count) → ((k : ℕ) → get_or bytes k 0 < 2 ^ 8) → number 8 bytes < 2 ^ (w * count)
      → packed_bits w count (map (complement w) (map (from_complement w) (unpacked_bits w count bytes))) ≡ bytes
  unfolding recoded
  bytes_back bytes long small spare =
      ap (packed_bits w count) (map_back (from_complement w) (complement w) (unpacked_bits w count bytes) 0 (λ k. complement_from_complement w _ (digits_below w count (number 8 bytes) k)))
      ∙ packed_unpacked w count bytes long small spare

-- byte_codes' sections of whole numbers, of n bytes an entry
pub whole_numbers : (n count : ℕ) (entries : List ℤ) → length entries ≡ count → ((k : ℕ) → 2 * nat_abs (get_or entries k (pos 0)) < 2 ^ (8 * n))
    → packed n (map (complement (8 * n)) entries) ≡ packed_bits (8 * n) count (map (complement (8 * n)) entries)
whole_numbers n count entries long small =
    packed_bits_lem n (map (complement (8 * n)) entries) count (length-map entries (complement (8 * n)) ∙ long) (complements_below (8 * n) count entries small)
