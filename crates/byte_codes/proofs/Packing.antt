-- The loops over a section, once for every kind of number: what one entry more makes of it. Assumes nothing.
use Rattle.std.proofs.Common.{◌≡◌, refl, sym, ap, ap₂, ◌∙◌, List, [], ◌∷◌, ◌++◌, map, ℕ, ◌+◌, ◌*◌, ◌-◌, ◌<◌, ◌≤◌, length, take, drop, get_or, arith, add-one, length-append, append_assoc, append-nil, take-append-drop, take_at}
use Rattle.std.proofs.Math.Nat.{mul-suc, mul-le-mul_left, mul-zero}
use Rattle.std.proofs.lemmas.List.{take_more, take_all, map-append, length-map, length-take-le}
use Rattle.std.proofs.lemmas.Slice.{take-put_mid, drop-put_mid, drop-append-drop}
use borrow.Rule.Slice.PartMut.{put_mid, mid_of}
use lib.ListN.{set as update, drop_of_length-le}
use Rattle.laws.proofs.Entries.{get_or-map}
use Rattle.laws.proofs.Loops.{Rewritten, more}
use Rattle.byte_codes.specs.Bytes.{bytes_of, number_in, packed, unpacked}
use Rattle.byte_codes.proofs.Sections.{length_bytes, length_packed, length_unpacked, unpacked_at}

-- the places of an entry's bytes
module _ (width i : ℕ) where
  next : width * (i + 1) ≡ width * i + width
  next = rw (add-one, mul-suc width i) (omega arith)

  room : width * (i + 1) - width * i ≡ width
  room = rw next (omega arith)

packed-append : (width : ℕ) (xs ys : List ℕ) → packed width (xs ++ ys) ≡ packed width xs ++ packed width ys
unfolding packed
packed-append width [] ys = refl
packed-append width (x ∷ xs) ys = ap (λ (l : List ℕ). bytes_of width x ++ l) (packed-append width xs ys) ∙ sym (append_assoc (bytes_of width x) (packed width xs) (packed width ys))

packed-one : (width x : ℕ) → packed width (x ∷ []) ≡ bytes_of width x
unfolding packed
packed-one width x = append-nil (bytes_of width x)

-- ---- writing: the bytes of the entries passed are in place, and behind them what was there
module _ {A : Type 0} (code : A → ℕ) (width : ℕ) (entries : List A) (out : List ℕ) where
  abbrev pub written : ℕ → List ℕ
  written i = packed width (map code (take i entries)) ++ drop (width * i) out

  pub none_written : out ≡ written 0
  unfolding packed
  none_written = rw (mul-zero width) refl

  length_front : (i : ℕ) → i ≤ length entries → length (packed width (map code (take i entries))) ≡ width * i
  length_front i h = length_packed width (map code (take i entries)) ∙ rw (length-map, length-take-le i entries h) refl

  front_more : (i : ℕ) (x : A) → i < length entries → x ≡ get_or entries i x → packed width (map code (take (i + 1) entries)) ≡ packed width (map code (take i entries)) ++ bytes_of width (code x)
  front_more i x h is =
      ap (λ (l : List A). packed width (map code l)) (take_more entries i x h ∙ ap (λ (y : A). take i entries ++ (y ∷ [])) (sym is))
      ∙ ap (packed width) (map-append code (take i entries) (x ∷ []))
      ∙ packed-append width (map code (take i entries)) (code x ∷ [])
      ∙ ap (λ (l : List ℕ). packed width (map code (take i entries)) ++ l) (packed-one width (code x))

  module _ (long : length out ≡ width * length entries) where
    pub written_more : (i : ℕ) (bytes : List ℕ) (x : A) → i < length entries → x ≡ get_or entries i x → bytes ≡ bytes_of width (code x)
        → put_mid (width * i) (width * (i + 1) - width * i) (written i) bytes ≡ written (i + 1)
    written_more i bytes x h is by =
        let front = packed width (map code (take i entries)) in
        let full : length front ≡ width * i = length_front i (omega arith) in
        let wide : length bytes ≡ width = ap length by ∙ length_bytes width (code x) in
        let within : width * i ≤ length (written i) = omega (arith, full, length-append front (drop (width * i) out)) in
        let end = width * (i + 1) in
        let ends : end ≡ width * i + length bytes = rw wide (next width i) in
        let size : length bytes ≡ end - width * i = rw (room width i) wide in
        let whole = put_mid (width * i) (end - width * i) (written i) bytes in
        sym (take-append-drop end whole)
        ∙ ap₂ ◌++◌
        (take-put_mid (width * i) (end - width * i) (written i) bytes end ends within
        ∙ ap₂ ◌++◌ (take_at front (drop (width * i) out) (width * i) full) by ∙ sym (front_more i x h is))
        (drop-put_mid (width * i) (end - width * i) (written i) bytes end (omega (arith, ends)) within size
        ∙ drop-append-drop (width * i) out front end (omega (arith, ends)) full)

    pub all_written : (i : ℕ) → length entries ≤ i → written i ≡ packed width (map code entries)
    all_written i h =
        let end : length out ≤ width * i = rw long (mul-le-mul_left width h) in
        ap₂ (λ (l : List A) (rest : List ℕ). packed width (map code l) ++ rest) (take_all i entries h) (drop_of_length-le out end) ∙ append-nil (packed width (map code entries))

-- ---- reading: the entries passed are read
module _ {B : Type 0} (decode : ℕ → B) (width : ℕ) (bytes : List ℕ) (entries : List B) where
  abbrev pub entries_in : List B
  entries_in = map decode (unpacked width (length entries) bytes)

  pub length_entries_in : length entries_in ≡ length entries
  length_entries_in = length-map (unpacked width (length entries) bytes) decode ∙ length_unpacked width (length entries) bytes

  pub read_more : (i : ℕ) {now : List B} (y : B) → i < length entries → y ≡ decode (number_in (mid_of (width * i) (width * (i + 1) - width * i) bytes))
      → Rewritten entries entries_in i now → Rewritten entries entries_in (i + 1) (update now i y)
  read_more i y h is so =
      let inside : i < length (unpacked width (length entries) bytes) = rw (length_unpacked width (length entries) bytes) h in
      more entries entries_in length_entries_in so y y h
      (is ∙ ap (λ (n : ℕ). decode (number_in (take n (drop (width * i) bytes)))) (room width i) ∙ ap decode (sym (unpacked_at width (length entries) bytes i h))
      ∙ sym (get_or-map decode (unpacked width (length entries) bytes) i 0 y inside))
