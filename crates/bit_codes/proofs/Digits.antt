-- Digits of any width in bits: entries, bounds, and the way there and back. Assumes nothing.
use mathlib.Core.Path.{◌≡◌, refl, sym, ap, ap₂, ◌∙◌}
use mathlib.Core.List.{List, [], ◌∷◌, ◌++◌}
use Prim.Native.Nat.{ℕ, zero, suc, ◌+◌, ◌*◌, ◌-◌, ◌/◌, ◌%◌, ◌^◌, ◌<◌, ◌≤◌}
use native.Mathlib.Nat.{add-zero, add_assoc, mod-one, zero-mod, mul-le-mul_left, not-suc-le-zero, le_of_suc-le-suc, mul-suc, mul-zero, zero-add, suc-add, add_comm, mul_comm, mod-lt, mod-add-div, div-one, zero-div, lt_of_lt_of_le}
use native.Mathlib.Numerals.{add-one}
use native.Mathlib.Omega.{arith}
use lib.ListN.{length, get_or, take, drop}
use lib.Seq.{take-nil, drop-nil, get_or-drop}
use lib.Pow.{pow_pos, pow-add, pow_mono, high, low, shr_lt, shr-shr, field, mod-mod-pow, mod-pow-add}
use Rattle.byte_codes.specs.Bytes.{bytes_of, number_in}
use Rattle.bit_codes.specs.Bits.{number, digits, recoded, bytes_for, packed_bits, unpacked_bits, entries_from}

-- ---- bytes are the digits of 8 bits
pub number_8 : (bytes : List ℕ) → number 8 bytes ≡ number_in bytes
unfolding number number_in
number_8 [] = refl
number_8 (b ∷ bytes) = ap (λ (n : ℕ). b + 256 * n) (number_8 bytes)

pub digits_8 : (count x : ℕ) → digits 8 count x ≡ bytes_of count x
unfolding digits bytes_of
digits_8 zero x = refl
digits_8 (suc count) x = ap (λ (l : List ℕ). x % 256 ∷ l) (digits_8 count (x / 256))

-- ---- any width
module _ (w : ℕ) where
  -- the lowest digit, and the others
  pub lowest : (x n : ℕ) → x < 2 ^ w → (x + 2 ^ w * n) % 2 ^ w ≡ x
  lowest x n h = ap (λ (m : ℕ). m % 2 ^ w) (add_comm x (2 ^ w * n) ∙ ap (λ (m : ℕ). m + x) (mul_comm (2 ^ w) n)) ∙ low n w h

  pub others : (x n : ℕ) → x < 2 ^ w → (x + 2 ^ w * n) / 2 ^ w ≡ n
  others x n h = ap (λ (m : ℕ). m / 2 ^ w) (add_comm x (2 ^ w * n) ∙ ap (λ (m : ℕ). m + x) (mul_comm (2 ^ w) n)) ∙ high n w h

  pow_next : (n : ℕ) → 2 ^ (w * suc n) ≡ 2 ^ w * 2 ^ (w * n)
  pow_next n = ap (λ (m : ℕ). 2 ^ m) (mul-suc w n ∙ add_comm (w * n) w) ∙ pow-add 2 w (w * n)

  pub length_digits : (count x : ℕ) → length (digits w count x) ≡ count
  unfolding digits
  length_digits zero x = refl
  length_digits (suc count) x = ap suc (length_digits count (x / 2 ^ w))

  -- digit j
  pub digits_at : (count x j : ℕ) → j < count → get_or (digits w count x) j 0 ≡ x / 2 ^ (w * j) % 2 ^ w
  unfolding digits
  digits_at zero x j h = absurd (not-suc-le-zero h)
  digits_at (suc count) x zero h = rw (mul-zero w, div-one x)
  digits_at (suc count) x (suc j) h =
      digits_at count (x / 2 ^ w) j (le_of_suc-le-suc h)
      ∙ ap (λ (m : ℕ). m % 2 ^ w) (shr-shr x w (w * j) ∙ ap (λ (m : ℕ). x / 2 ^ m) (add_comm w (w * j) ∙ sym (mul-suc w j)))

  pub digits_below : (count x k : ℕ) → get_or (digits w count x) k 0 < 2 ^ w
  unfolding digits
  digits_below zero x k = pow_pos w
  digits_below (suc count) x zero = mod-lt x (pow_pos w)
  digits_below (suc count) x (suc k) = digits_below count (x / 2 ^ w) k

  pub number_below : (xs : List ℕ) → ((k : ℕ) → get_or xs k 0 < 2 ^ w) → number w xs < 2 ^ (w * length xs)
  unfolding number
  number_below [] small = pow_pos (w * 0)
  number_below (x ∷ xs) small = rw (pow_next (length xs)) (step (2 ^ w) (2 ^ (w * length xs)) (number w xs) (small 0) (number_below xs (λ k. small (suc k))))
    where
      step : (b m n : ℕ) → x < b → n < m → x + b * n < b * m
      step b m n h k =
          let more : b * suc n ≤ b * m = mul-le-mul_left b k in
          let next : b * suc n ≡ b * n + b = mul-suc b n in
          omega arith

  -- ---- there and back
  pub number_digits : (count x : ℕ) → x < 2 ^ (w * count) → number w (digits w count x) ≡ x
  unfolding number digits
  number_digits zero x h = let none : x < 1 = rw (mul-zero w) at h in omega arith
  number_digits (suc count) x h =
      ap (λ (n : ℕ). x % 2 ^ w + 2 ^ w * n) (number_digits count (x / 2 ^ w) (shr_lt (w * count) w (rw (mul-suc w count) at h)))
      ∙ mod-add-div x (2 ^ w)

  pub digits_number : (xs : List ℕ) → ((k : ℕ) → get_or xs k 0 < 2 ^ w) → digits w (length xs) (number w xs) ≡ xs
  unfolding number digits
  digits_number [] small = refl
  digits_number (x ∷ xs) small =
      ap₂ ◌∷◌ (lowest x (number w xs) (small 0))
      (ap (digits w (length xs)) (others x (number w xs) (small 0)) ∙ digits_number xs (λ k. small (suc k)))

  -- ---- what stands from a place on
  pub number_from : (xs : List ℕ) (i : ℕ) → ((k : ℕ) → get_or xs k 0 < 2 ^ w) → number w xs / 2 ^ (w * i) ≡ number w (drop i xs)
  unfolding number
  number_from xs zero small = rw (mul-zero w) (div-one (number w xs))
  number_from [] (suc i) small = zero-div (2 ^ (w * suc i))
  number_from (x ∷ xs) (suc i) small =
      ap (λ (m : ℕ). (x + 2 ^ w * number w xs) / 2 ^ m) (mul-suc w i ∙ add_comm (w * i) w)
      ∙ sym (shr-shr (x + 2 ^ w * number w xs) w (w * i))
      ∙ ap (λ (m : ℕ). m / 2 ^ (w * i)) (others x (number w xs) (small 0))
      ∙ number_from xs i (λ k. small (suc k))

-- the bits of entries of one width, as entries of another, and back: both round trips of a section
pub recoded_back : (v w count count' : ℕ) (xs : List ℕ) → length xs ≡ count → ((k : ℕ) → get_or xs k 0 < 2 ^ w) → number w xs < 2 ^ (v * count')
    → recoded v w count (recoded w v count' xs) ≡ xs
unfolding recoded
recoded_back v w count count' xs long small fits =
    ap (digits w count) (number_digits v count' (number w xs) fits) ∙ ap (λ (n : ℕ). digits w n (number w xs)) (sym long) ∙ digits_number w xs small

-- ---- lengths of a section
pub length_packed : (w count : ℕ) (entries : List ℕ) → length (packed_bits w count entries) ≡ bytes_for (w * count)
unfolding recoded
length_packed w count entries = length_digits 8 (bytes_for (w * count)) (number w entries)

pub length_unpacked : (w count : ℕ) (bytes : List ℕ) → length (unpacked_bits w count bytes) ≡ count
unfolding recoded
length_unpacked w count bytes = length_digits w count (number 8 bytes)

-- ---- a section of `count` entries of w bits: entries to bytes and back, bytes whose spare bits are zero to entries and back
module _ (w count : ℕ) where
  pub room : w * count ≤ 8 * bytes_for (w * count)
  room = ceil (w * count)
    where
      ceil : (n : ℕ) → n ≤ 8 * ((n + 7) / 8)
      ceil n = omega arith

  pub unpacked_packed : (entries : List ℕ) → length entries ≡ count → ((k : ℕ) → get_or entries k 0 < 2 ^ w)
      → unpacked_bits w count (packed_bits w count entries) ≡ entries
  unpacked_packed entries long small =
      recoded_back 8 w count (bytes_for (w * count)) entries long small
      (lt_of_lt_of_le (number_below w entries small) (pow_mono (rw long room)))

  pub packed_unpacked : (bytes : List ℕ) → length bytes ≡ bytes_for (w * count) → ((k : ℕ) → get_or bytes k 0 < 2 ^ 8) → number 8 bytes < 2 ^ (w * count)
      → packed_bits w count (unpacked_bits w count bytes) ≡ bytes
  packed_unpacked bytes long small spare = recoded_back w 8 (bytes_for (w * count)) count bytes long small spare

-- ---- a window of three digits
module _ (v : ℕ) where
  number_next : (m : ℕ) (xs : List ℕ) (i : ℕ) → number v (take (suc m) (drop i xs)) ≡ get_or xs i 0 + 2 ^ v * number v (take m (drop (i + 1) xs))
  unfolding number
  number_next m [] i = rw (drop-nil i, drop-nil (i + 1), take-nil m, mul-zero (2 ^ v))
  number_next m (x ∷ xs) zero = refl
  number_next m (x ∷ xs) (suc i) = rw (add-one (suc i)) (rw (add-one i) at (number_next m xs i))

  pub number_front : (m : ℕ) (xs : List ℕ) → ((k : ℕ) → get_or xs k 0 < 2 ^ v) → number v xs % 2 ^ (v * m) ≡ number v (take m xs)
  unfolding number
  number_front zero xs small = rw (mul-zero v) (mod-one (number v xs))
  number_front (suc m) [] small = zero-mod (2 ^ (v * suc m))
  number_front (suc m) (x ∷ xs) small =
      ap (λ (n : ℕ). (x + 2 ^ v * number v xs) % 2 ^ n) (mul-suc v m)
      ∙ mod-pow-add (x + 2 ^ v * number v xs) (v * m) v
      ∙ rw (lowest v x (number v xs) (small 0), others v x (number v xs) (small 0), number_front m xs (λ k. small (suc k))) (turn (number v (take m xs)) (2 ^ v))
    where
      turn : (a b : ℕ) → a * b + x ≡ x + b * a
      turn a b = add_comm (a * b) x ∙ ap (λ (n : ℕ). x + n) (mul_comm a b)

  abbrev pub three : List ℕ → ℕ → ℕ
  three xs i = get_or xs i 0 + (get_or xs (i + 1) 0 + get_or xs (i + 2) 0 * 2 ^ v) * 2 ^ v

  three_is : (xs : List ℕ) (i : ℕ) → number v (take 3 (drop i xs)) ≡ three xs i
  unfolding number
  three_is xs i =
      number_next 2 xs i
      ∙ join (get_or xs i 0) (number_next 1 xs (i + 1) ∙ join (get_or xs (i + 1) 0) (number_next 0 xs (i + 1 + 1) ∙ rw (mul-zero (2 ^ v), add-zero, add_assoc i 1 1)))
    where
      join : (a : ℕ) {m n : ℕ} → m ≡ n → a + 2 ^ v * m ≡ a + n * 2 ^ v
      join a {m} {n} e = ap (λ (k : ℕ). a + k) (ap (λ (k : ℕ). 2 ^ v * k) e ∙ mul_comm (2 ^ v) n)

  -- w bits from bit s of digit i on, out of the three digits from there
  pub window : (w : ℕ) (xs : List ℕ) (i s : ℕ) → ((k : ℕ) → get_or xs k 0 < 2 ^ v) → s + w ≤ v * 3
      → three xs i / 2 ^ s % 2 ^ w ≡ number v xs / 2 ^ (v * i + s) % 2 ^ w
  window w xs i s small room =
      let whole : v * 3 ≡ (v * 3 - (s + w) + w) + s = omega arith in
      ap (λ (n : ℕ). n / 2 ^ s % 2 ^ w)
      (sym (three_is xs i) ∙ sym (number_front 3 (drop i xs) (λ k. rw (get_or-drop i xs k 0) (small (i + k)))) ∙ ap (λ (n : ℕ). number v (drop i xs) % 2 ^ n) whole)
      ∙ ap (λ (n : ℕ). n % 2 ^ w) (field (number v (drop i xs)) (v * 3 - (s + w) + w) s)
      ∙ mod-mod-pow (number v (drop i xs) / 2 ^ s) (v * 3 - (s + w)) w
      ∙ ap (λ (n : ℕ). n / 2 ^ s % 2 ^ w) (sym (number_from v xs i small))
      ∙ ap (λ (n : ℕ). n % 2 ^ w) (shr-shr (number v xs) (v * i) s)

-- ---- a section in a record: entries from bit 8 k on are those of the bytes from k on, and only the section's own bytes count
pub digits_front : (w count k x : ℕ) → w * count ≤ k → digits w count (x % 2 ^ k) ≡ digits w count x
unfolding digits
digits_front w zero k x h = refl
digits_front w (suc count) k x h =
    let more : w * suc count ≡ w * count + w = mul-suc w count in
    let whole : k ≡ k - w + w = omega arith in
    let left : w * count ≤ k - w = omega arith in
    ap₂ ◌∷◌
    (ap (λ (n : ℕ). x % 2 ^ n % 2 ^ w) whole ∙ mod-mod-pow x (k - w) w)
    (ap (λ (n : ℕ). digits w count (x % 2 ^ n / 2 ^ w)) whole ∙ ap (digits w count) (field x (k - w) w) ∙ digits_front w count (k - w) (x / 2 ^ w) left)

-- of a list of bytes only so many count
pub entries_take : (w count : ℕ) (bytes : List ℕ) → ((k : ℕ) → get_or bytes k 0 < 2 ^ 8) → (m : ℕ) → w * count ≤ 8 * m → unpacked_bits w count (take m bytes) ≡ unpacked_bits w count bytes
unfolding recoded
entries_take w count bytes small m h = ap (digits w count) (sym (number_front 8 m bytes small)) ∙ digits_front w count (8 * m) (number 8 bytes) h

-- digits, and those after them
pub digits_append : (w m n x : ℕ) → digits w (m + n) x ≡ digits w m x ++ digits w n (x / 2 ^ (w * m))
unfolding digits
digits_append w zero n x = rw (mul-zero w, div-one x, zero-add n)
digits_append w (suc m) n x =
    rw (suc-add m n)
    (ap (λ (l : List ℕ). x % 2 ^ w ∷ l)
    (digits_append w m n (x / 2 ^ w)
    ∙ ap (λ (y : ℕ). digits w m (x / 2 ^ w) ++ digits w n y) (shr-shr x w (w * m) ∙ ap (λ (k : ℕ). x / 2 ^ k) (add_comm w (w * m) ∙ sym (mul-suc w m)))))

module _ (w count : ℕ) (bytes : List ℕ) (small : (k : ℕ) → get_or bytes k 0 < 2 ^ 8) where
  pub entries_drop : (k : ℕ) → entries_from (8 * k) w count bytes ≡ unpacked_bits w count (drop k bytes)
  unfolding recoded
  entries_drop k = ap (digits w count) (number_from 8 bytes k small)

  -- the entries that start on a byte, as those of the bytes from there up to another
  pub entries_part : (from to : ℕ) → w * count ≤ 8 * (to - from) → entries_from (8 * from) w count bytes ≡ unpacked_bits w count (take (to - from) (drop from bytes))
  entries_part from to h =
      entries_drop from ∙ sym (entries_take w count (drop from bytes) (λ k. rw (get_or-drop from bytes k 0) (small (from + k))) (to - from) h)
