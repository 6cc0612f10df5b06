-- Numbers and sections as bytes: lengths and entries, once for every width. The way there and back is that of entries of any width in bits (bit_codes). Assumes nothing.
use mathlib.Core.Path.{◌≡◌, refl, sym, ap, ◌∙◌}
use mathlib.Core.List.{List, [], ◌∷◌, ◌++◌}
use Prim.Native.Nat.{ℕ, zero, suc, ◌+◌, ◌*◌, ◌/◌, ◌<◌}
use native.Mathlib.Nat.{not-suc-le-zero, le_of_suc-le-suc, mul-suc, mul-zero, zero-add}
use native.Mathlib.Omega.{arith}
use lib.ListN.{length, take, drop, get_or, length-append, get_or-append}
use lib.Seq.{drop-drop, get_or-append-add}
use Rattle.byte_codes.specs.Bytes.{bytes_of, number_in, packed, unpacked}

-- ---- bytes
pub take_small : (n : ℕ) (bytes : List ℕ) → ((k : ℕ) → get_or bytes k 0 < 256) → (k : ℕ) → get_or (take n bytes) k 0 < 256
take_small zero bytes small k = omega arith
take_small (suc n) [] small k = omega arith
take_small (suc n) (b ∷ bytes) small zero = small 0
take_small (suc n) (b ∷ bytes) small (suc k) = take_small n bytes (λ k. small (suc k)) k

-- ---- a number
pub length_bytes : (width x : ℕ) → length (bytes_of width x) ≡ width
unfolding bytes_of
length_bytes zero x = refl
length_bytes (suc width) x = ap suc (length_bytes width (x / 256))

-- ---- a section
module _ (width : ℕ) where
  pub length_packed : (entries : List ℕ) → length (packed width entries) ≡ width * length entries
  unfolding packed
  length_packed [] = sym (mul-zero width)
  length_packed (x ∷ entries) =
      length-append (bytes_of width x) (packed width entries)
      ∙ rw (length_bytes width x, length_packed entries, mul-suc width (length entries)) (omega arith)

  -- byte j of entry i
  pub packed_at : (entries : List ℕ) (i j : ℕ) → i < length entries → j < width
      → get_or (packed width entries) (width * i + j) 0 ≡ get_or (bytes_of width (get_or entries i 0)) j 0
  unfolding packed
  packed_at [] i j h k = absurd (not-suc-le-zero h)
  packed_at (x ∷ entries) zero j h k =
      let inside : j < length (bytes_of width x) = rw (length_bytes width x) k in
      rw (mul-zero, zero-add) (get_or-append (bytes_of width x) (packed width entries) 0 j inside)
  packed_at (x ∷ entries) (suc i) j h k =
      ap (λ (n : ℕ). get_or (bytes_of width x ++ packed width entries) n 0) (shift (length (bytes_of width x)) (length_bytes width x))
      ∙ get_or-append-add (bytes_of width x) (packed width entries) (width * i + j) 0
      ∙ packed_at entries i j (le_of_suc-le-suc h) k
    where
      shift : (n : ℕ) → n ≡ width → width * suc i + j ≡ n + (width * i + j)
      shift n e = rw (mul-suc width i) (omega arith)

  pub length_unpacked : (count : ℕ) (bytes : List ℕ) → length (unpacked width count bytes) ≡ count
  unfolding unpacked
  length_unpacked zero bytes = refl
  length_unpacked (suc count) bytes = ap suc (length_unpacked count (drop width bytes))

  pub unpacked_at : (count : ℕ) (bytes : List ℕ) (i : ℕ) → i < count → get_or (unpacked width count bytes) i 0 ≡ number_in (take width (drop (width * i) bytes))
  unfolding unpacked
  unpacked_at zero bytes i h = absurd (not-suc-le-zero h)
  unpacked_at (suc count) bytes zero h = rw mul-zero
  unpacked_at (suc count) bytes (suc i) h =
      unpacked_at count (drop width bytes) i (le_of_suc-le-suc h)
      ∙ ap (λ (l : List ℕ). number_in (take width l)) (drop-drop (width * i) width bytes ∙ ap (λ (n : ℕ). drop n bytes) (step (width * i)))
    where
      step : (n : ℕ) → width + width * i ≡ width * suc i
      step n = rw (mul-suc width i) (omega arith)
