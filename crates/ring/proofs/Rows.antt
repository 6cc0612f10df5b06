-- A product modulo x^8 - w, made row by row from the last coefficient of f, in 8 entries of c that move down by one each time.
-- Assumes nothing.
use mathlib.Core.Path.{◌≡◌, refl, ap, ap₂, sym, ◌∙◌}
use mathlib.Core.List.{List, [], ◌∷◌, map}
use Prim.Native.Nat.{ℕ, zero, suc, ◌+◌, ◌*◌, ◌-◌, ◌%◌, ◌<◌, ◌≤◌}
use native.Mathlib.Nat as N
use native.Mathlib.Numerals.{add-one}
use native.Mathlib.Omega.{arith}
use lib.ListN.{length, take, drop, get_or, replicate, length-drop, drop_of_length-le}
use lib.Seq.{length-take-le, drop-cons, drop-drop, get_or-take, get_or-drop, take-take}
use Rattle.laws.specs.Lists.{zip_with}
use Rattle.laws.proofs.Pointwise.{map-zip_with}
use Rattle.sets.specs.Numbers.{modulus}
use Rattle.polynomials.specs.Field.{turned, by_rows, add, mul, mix, turn, product_modulo}
use Rattle.polynomials.proofs.Rows.{map_turned}
use Rattle.ring.specs.Transform.{Within}
use Rattle.ring.proofs.Estimates.{residues_product}
use Rattle.ring.proofs.Zips.{map_same, within_take, within_zeros}

-- what one row more is, before it is reduced
abbrev pub grown : ℕ → ℕ → List ℕ → ℕ → List ℕ → List ℕ
grown w a s last rest = zip_with (λ y z. z + a * y) s (w * (last % modulus) ∷ rest)

residue_row : (a y z : ℕ) → (z + a * y) % modulus ≡ mix a y (z % modulus)
unfolding add mul
residue_row a y z =
    ap (λ (n : ℕ). n % modulus) (N.add_comm z (a * y)) ∙ N.add-mod (a * y) z modulus

-- its residues are a row more of the product of residues
residues_grown : (w a : ℕ) (s l : List ℕ) → Within 12288 s → length l ≡ 8
    → map (λ x. x % modulus) (grown w a s (get_or l 7 0) (take 7 l)) ≡ zip_with (mix a) s (turn w (map (λ x. x % modulus) l))
unfolding turned mul
residues_grown w a s l p e =
    let r : ℕ → ℕ = λ x. x % modulus in
    let back : ℕ → ℕ = λ x. w * (x % modulus) in
    ap (λ (n : ℕ). map r (zip_with (λ y z. z + a * y) s (back (get_or l (n - 1) 0) ∷ take (n - 1) l))) (sym e)
    ∙ map-zip_with (λ y z. z + a * y) (mix a) (λ x. x) r r (residue_row a) s (turned back 0 l)
    ∙ ap₂ (zip_with (mix a)) (map_same 12288 (λ x. x) (λ x q. refl) s p) (map_turned r back (mul w) 0 (λ x. refl) l)

-- and each entry has grown by one product of residues
within_row : (b a : ℕ) (s t : List ℕ) → a ≤ 12288 → Within 12288 s → Within b t → Within (b + 150994944) (zip_with (λ y z. z + a * y) s t)
unfolding zip_with
within_row b a [] t p q h i = omega arith
within_row b a (y ∷ s) [] p q h i = omega arith
within_row b a (y ∷ s) (z ∷ t) p q h zero = omega (arith, h 0, residues_product p (q 0))
within_row b a (y ∷ s) (z ∷ t) p q h (suc i) = within_row b a s t p (λ j. q (suc j)) (λ j. h (suc j)) i

within_cons : (b x : ℕ) (l : List ℕ) → x ≤ b → Within b l → Within b (x ∷ l)
within_cons b x l p q zero = p
within_cons b x l p q (suc i) = q i

-- the rows of f from i on stand in 8 entries of c from i on
pub record Window (w : ℕ) (f s : List ℕ) (i : ℕ) (c : List ℕ) : Type 0 where
  pub long : length c ≡ 16
  pub is : map (λ x. x % modulus) (take 8 (drop i c)) ≡ product_modulo w (drop i f) s
  pub small : Within ((9 - i) * 150994944) (take 8 (drop i c))

module _ (w : ℕ) (f s : List ℕ) (w-small : w ≤ 12288) (lf : length f ≡ 8) (ls : length s ≡ 8) (f_small : Within 12288 f) (s-small : Within 12288 s) where
  pub begin : Window w f s 8 (replicate 16 0)
  unfolding by_rows
  begin =
      record {
        long = refl;
        is = sym (ap (λ (l : List ℕ). product_modulo w l s) (drop_of_length-le f {i = 8} (omega arith)) ∙ ap (λ (n : ℕ). replicate n 0) ls);
        small = within_zeros 150994944 8;
      }

  module _ {i : ℕ} {c : List ℕ} (so : Window w f s (i + 1) c) (below : i < 8) where
    abbrev rows : List ℕ
    rows = take 8 (drop (i + 1) c)

    length_rows : length rows ≡ 8
    length_rows = let l = so.long in length-take-le 8 (drop (i + 1) c) (omega (arith, length-drop (i + 1) c))

    first_rows : take 7 rows ≡ take 7 (drop (i + 1) c)
    first_rows = take-take 7 8 (drop (i + 1) c) (omega arith)

    -- what row requires of the entries that it adds to
    pub room : Within 1207959552 (take 7 (drop 1 (drop i c)))
    room j = rw (drop-drop 1 i c, ← first_rows) (omega (arith, within_take ((9 - (i + 1)) * 150994944) 7 rows so.small j))

    pub more : (c' : List ℕ) → length c' ≡ 16 → take 8 (drop i c') ≡ grown w (get_or f i 0) s (get_or (drop i c) 8 0) (take 7 (drop 1 (drop i c))) → Window w f s i c'
    unfolding by_rows
    more c' l e =
        let a = get_or f i 0 in
        let last : get_or (drop i c) 8 0 ≡ get_or rows 7 0
        = get_or-drop i c 8 0 ∙ ap (λ (n : ℕ). get_or c n 0) (omega arith) ∙ sym (get_or-take 8 (drop (i + 1) c) 7 0 (omega arith) ∙ get_or-drop (i + 1) c 7 0) in
        let e' : take 8 (drop i c') ≡ grown w a s (get_or rows 7 0) (take 7 rows)
        = e ∙ ap₂ (grown w a s) last (ap (take 7) (drop-drop 1 i c) ∙ sym first_rows) in
        let head : w * (get_or rows 7 0 % modulus) ≤ 150994944 = residues_product w-small (omega arith) in
        let bound : (9 - (i + 1)) * 150994944 + 150994944 ≡ (9 - i) * 150994944 = omega arith in
        record {
          long = l;
          is = ap (map (λ x. x % modulus)) e' ∙ residues_grown w a s rows s-small length_rows ∙ ap (λ (t : List ℕ). zip_with (mix a) s (turn w t)) so.is
              ∙ ap (λ (n : ℕ). product_modulo w (a ∷ drop n f) s) (add-one i) ∙ ap (λ (t : List ℕ). product_modulo w t s) (sym (drop-cons f i 0 (omega arith)));
          small = rw (e', ← bound)
              (within_row ((9 - (i + 1)) * 150994944) a s (w * (get_or rows 7 0 % modulus) ∷ take 7 rows) (f_small i) s-small
              (within_cons ((9 - (i + 1)) * 150994944) (w * (get_or rows 7 0 % modulus)) (take 7 rows) (omega arith) (within_take ((9 - (i + 1)) * 150994944) 7 rows so.small)));
        }

pub finish : (w : ℕ) (f s : List ℕ) (i : ℕ) (c : List ℕ) → i ≤ 0 → Window w f s i c → map (λ x. x % modulus) (take 8 c) ≡ product_modulo w f s
finish w f s zero c p so = so.is
finish w f s (suc i) c p so = absurd (N.not-suc-le-zero p)
