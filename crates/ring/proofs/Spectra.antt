-- The transform: lengths, bounds, and that products of remainders, put together again, are the product, doubled at each join.
-- Assumes nothing.
use mathlib.Core.Path.{◌≡◌, refl, ap, ap₂, sym, ◌∙◌}
use mathlib.Core.Bool.{Bool, true, ◌&&◌}
use mathlib.Core.List.{List, ◌++◌, map, map-append, map-map}
use Prim.Native.Nat.{ℕ, zero, suc, ◌+◌, ◌-◌, ◌/◌, ◌%◌, ◌<◌, ◌≤◌}
use native.Mathlib.Omega.{arith}
use borrow.Author.Tests.{eqb-true}
use lib.Dec.{eqb, lit<}
use lib.IntN.{ℤ}
use lib.ListN.{length, take, drop, length-append, length-drop, length-map, take-append-drop}
use lib.Seq.{length-take-le, take_at, drop_at}
use Rattle.laws.specs.Integers.{residue}
use Rattle.laws.specs.Lists.{zip_with}
use Rattle.laws.proofs.Chain.{and_left, and_right}
use Rattle.laws.proofs.Congruence.{residue_lt}
use Rattle.sets.specs.Numbers.{modulus}
use Rattle.polynomials.specs.Field.{add, mul, mix, product_modulo}
use Rattle.polynomials.specs.Product.{product}
use Rattle.polynomials.proofs.Rows.{length-by_rows}
use Rattle.polynomials.proofs.Residues.{product_residues}
use Rattle.ring.specs.Powers.{power}
use Rattle.ring.specs.Transform.{sub, Within, plus, minus, low, high, size, remainders, spectrum_of, back, joined, convolution}
use Rattle.ring.proofs.Field as F
use Rattle.ring.proofs.Field.{field}
use Rattle.ring.proofs.Zips.{within_zip_with, within_map, within_append, both_joins, join_first, join_second, zip_with_alike, map_same}
use Rattle.ring.proofs.Products.{within_product, length_low, remainder_product, high_low}

pub positive : (k : ℕ) → 0 < size k
unfolding size
positive zero = lit< tt
positive (suc k) = omega (arith, positive k)

-- ---- lengths and bounds

length_high : (w h : ℕ) (g : List ℕ) → length g ≡ h + h → length (high h w g) ≡ h
length_high w h g e = ap length (high_low w h g) ∙ length_low (mul 12288 w) h g e

pub within_low : (w h : ℕ) (g : List ℕ) → Within 12288 (low h w g)
unfolding low
within_low w h g = within_zip_with 12288 (plus w) (λ x y. F.add-le x (mul w y)) (take h g) (drop h g)

pub within_high : (w h : ℕ) (g : List ℕ) → Within 12288 (high h w g)
unfolding high
within_high w h g = within_zip_with 12288 (minus w) (λ x y. F.add-le x (mul 12288 (mul w y))) (take h g) (drop h g)

length_remainders : (k e : ℕ) (f : List ℕ) → length f ≡ size k → length (remainders k e f) ≡ size k
unfolding remainders size
length_remainders zero e f len = len
length_remainders (suc k) e f len =
    let w = power (e / 2) in
    length-append (remainders k (e / 2) (low (size k) w f)) (remainders k (e / 2 + 512) (high (size k) w f))
    ∙ ap₂ ◌+◌ (length_remainders k (e / 2) (low (size k) w f) (length_low w (size k) f len))
    (length_remainders k (e / 2 + 512) (high (size k) w f) (length_high w (size k) f len))

within_remainders : (k e : ℕ) (f : List ℕ) → Within 12288 f → Within 12288 (remainders k e f)
unfolding remainders
within_remainders zero e f p = p
within_remainders (suc k) e f p =
    let w = power (e / 2) in
    within_append 12288 (remainders k (e / 2) (low (size k) w f)) (remainders k (e / 2 + 512) (high (size k) w f))
    (within_remainders k (e / 2) (low (size k) w f) (within_low w (size k) f))
    (within_remainders k (e / 2 + 512) (high (size k) w f) (within_high w (size k) f))

within_joined : (v : ℕ) (l r : List ℕ) → Within 12288 (joined v l r)
unfolding joined
within_joined v l r =
    within_append 12288 (zip_with add l r) (zip_with (back v) l r)
    (within_zip_with 12288 add F.add-le l r) (within_zip_with 12288 (back v) (λ x y. F.mul-le v (sub y x)) l r)

pub within_convolution : (k e : ℕ) (f g : List ℕ) → Within 12288 (convolution k e f g)
unfolding convolution
within_convolution zero e f g = within_product (power e) f g
within_convolution (suc k) e f g = within_joined (power (512 - e / 2)) _ _

-- ---- joining what was split

sum_parts : (c w m x y : ℕ) → add (mul c (add x (mul w y))) (mul c (add x (mul m (mul w y)))) ≡ add (add (mul c (mul w y)) (mul m (mul c (mul w y)))) (add (mul c x) (mul c x))
sum_parts c w m x y = simp field

sum_back : (c w x y : ℕ) → add (mul c (plus w x y)) (mul c (minus w x y)) ≡ mul (c + c) x
sum_back c w x y =
    sum_parts c w 12288 x y
    ∙ ap (λ (n : ℕ). add n (add (mul c x) (mul c x))) (F.cancels (mul c (mul w y)))
    ∙ F.zero-add _ (F.add-le (mul c x) (mul c x)) ∙ sym (F.double c x)

back_parts : (c w v m x y : ℕ) → mul v (add (mul c (add x (mul m (mul w y)))) (mul m (mul c (add x (mul w y)))))
    ≡ add (mul v (add (mul c x) (mul m (mul c x)))) (add (mul (mul v w) (mul m (mul c y))) (mul (mul v w) (mul m (mul c y))))
back_parts c w v m x y = simp field

difference_back : (c w v x y : ℕ) → mul v w ≡ 12288 → back v (mul c (plus w x y)) (mul c (minus w x y)) ≡ mul (c + c) y
difference_back c w v x y e =
    let one : mul (mul v w) (mul 12288 (mul c y)) ≡ mul c y
    = ap (λ (n : ℕ). mul n (mul 12288 (mul c y))) e ∙ F.twice_negative (mul c y) ∙ F.one-mul (mul c y) (F.mul-le c y) in
    back_parts c w v 12288 x y
    ∙ ap₂ add (ap (mul v) (F.cancels (mul c x)) ∙ F.mul-zero v) (ap₂ add one one)
    ∙ F.zero-add _ (F.add-le (mul c y) (mul c y)) ∙ sym (F.double c y)

rejoined : (c w v h : ℕ) (p : List ℕ) → length p ≡ h + h → mul v w ≡ 12288
    → joined v (map (mul c) (low h w p)) (map (mul c) (high h w p)) ≡ map (mul (c + c)) p
unfolding joined low high
rejoined c w v h p e vw =
    let A = take h p in
    let B = drop h p in
    let la : length A ≡ length B = omega (arith, length-take-le h p (omega arith), length-drop h p) in
    ap₂ ◌++◌
    (both_joins add (plus w) (minus w) (mul c) A B ∙ zip_with_alike (sum_back c w) A B ∙ join_first (mul (c + c)) A B la)
    (both_joins (back v) (plus w) (minus w) (mul c) A B ∙ zip_with_alike (λ x y. difference_back c w v x y vw) A B ∙ join_second (mul (c + c)) A B la)
    ∙ sym (map-append (mul (c + c)) A B)
    ∙ ap (map (mul (c + c))) (take-append-drop h p)

-- ---- the product

-- how often a product of remainders is doubled
doubled : ℕ → ℕ
doubled zero = 1
doubled (suc k) = doubled k + doubled k

-- each exponent that is halved is even: a test that antt computes
abbrev halves : ℕ → ℕ → Bool
halves zero e = true
halves (suc k) e = eqb (e / 2 + e / 2) e && (halves k (e / 2) && halves k (e / 2 + 512))

convolution_is : (k e : ℕ) (f g : List ℕ) → halves k e ≡ true → e < 1024 → length f ≡ size k → length g ≡ size k
    → convolution k e (remainders k e f) g ≡ map (mul (doubled k)) (product_modulo (power e) f g)
unfolding convolution remainders doubled size
convolution_is zero e f g o b lf lg =
    sym (map_same 12288 (mul 1) F.one-mul (product_modulo (power e) f g) (within_product (power e) f g))
convolution_is (suc k) e f g o b lf lg =
    let h = size k in
    let w = power (e / 2) in
    let u = mul 12288 w in
    let v = power (512 - e / 2) in
    let c = doubled k in
    let P = product_modulo (power e) f g in
    let lower = halves k (e / 2) in
    let upper = halves k (e / 2 + 512) in
    let even : e / 2 + e / 2 ≡ e = eqb-true (e / 2 + e / 2) e (and_left (eqb (e / 2 + e / 2) e) (lower && upper) o) in
    let rest : lower && upper ≡ true = and_right (eqb (e / 2 + e / 2) e) (lower && upper) o in
    let square : mul w w ≡ power e = sym (F.power_add (e / 2) (e / 2)) ∙ ap power even in
    let L = remainders k (e / 2) (low h w f) in
    let R = remainders k (e / 2 + 512) (high h w f) in
    let lL : length L ≡ h = length_remainders k (e / 2) (low h w f) (length_low w h f lf) in
    let l : convolution k (e / 2) (take h (L ++ R)) (low h w g) ≡ map (mul c) (low h w P)
    = ap (λ (x : List ℕ). convolution k (e / 2) x (low h w g)) (take_at L R h lL)
    ∙ convolution_is k (e / 2) (low h w f) (low h w g) (and_left lower upper rest) (omega arith) (length_low w h f lf) (length_low w h g lg)
    ∙ ap (map (mul c)) (remainder_product w h f g lf lg (positive k) ∙ ap (λ (x : ℕ). low h w (product_modulo x f g)) square) in
    let r : convolution k (e / 2 + 512) (drop h (L ++ R)) (high h w g) ≡ map (mul c) (high h w P)
    = ap (λ (x : List ℕ). convolution k (e / 2 + 512) x (high h w g)) (drop_at L R h lL)
    ∙ convolution_is k (e / 2 + 512) (high h w f) (high h w g) (and_right lower upper rest) (omega arith) (length_high w h f lf) (length_high w h g lg)
    ∙ ap (map (mul c)) (ap (λ (x : ℕ). product_modulo x (high h w f) (high h w g)) (F.power_opposite (e / 2))
    ∙ ap₂ (product_modulo u) (high_low w h f) (high_low w h g)
    ∙ remainder_product u h f g lf lg (positive k)
    ∙ ap (λ (x : ℕ). low h u (product_modulo x f g)) (F.square_negative w ∙ square)
    ∙ sym (high_low w h P)) in
    let lP : length P ≡ h + h = length-by_rows (mul (power e)) 0 mix f g (omega (arith, positive k)) ∙ lg in
    let vw : mul v w ≡ 12288 = sym (F.power_add (512 - e / 2) (e / 2)) ∙ ap power (omega arith) ∙ (F.power_points).1 in
    ap₂ (joined v) l r ∙ rejoined c w v h P lP vw

scaled_back : (x : ℕ) → x ≤ 12288 → mul 12097 (mul 64 x) ≡ x
unfolding mul
scaled_back x h = sym (F.mul_assoc 12097 64 x) ∙ F.one-mul x h

-- 12097 times 64 is 1
pub whole : (f g : List ℕ) → length f ≡ 512 → length g ≡ 512 → map (mul 12097) (convolution 6 512 (remainders 6 512 f) g) ≡ product_modulo 12288 f g
unfolding doubled size
whole f g lf lg =
    ap (map (mul 12097)) (convolution_is 6 512 f g refl (lit< tt) lf lg ∙ ap (λ (w : ℕ). map (mul 64) (product_modulo w f g)) (F.power_points).1)
    ∙ map-map (mul 12097) (mul 64) (product_modulo 12288 f g)
    ∙ map_same 12288 (λ x. mul 12097 (mul 64 x)) scaled_back (product_modulo 12288 f g) (within_product 12288 f g)

-- ---- the spectrum of a key

pub length_spectrum : (a : List ℕ) → length a ≡ 512 → length (spectrum_of a) ≡ 512
unfolding spectrum_of size
length_spectrum a e = length_remainders 6 512 (map (λ x. x % modulus) a) (length-map a (λ x. x % modulus) ∙ e)

pub within_residues : (a : List ℕ) → Within 12288 (map (λ x. x % modulus) a)
within_residues a = within_map 12288 (λ x. x % modulus) (λ x. omega arith) a

pub within_signed_residues : (z : List ℤ) → Within 12288 (map (residue modulus) z)
within_signed_residues z = within_map 12288 (residue modulus) (λ x. omega (arith, residue_lt {m = modulus} (lit< tt) x)) z

pub within_spectrum : (a : List ℕ) → Within 12288 (spectrum_of a)
unfolding spectrum_of
within_spectrum a = within_remainders 6 512 (map (λ x. x % modulus) a) (within_residues a)

pub product_is : (a : List ℕ) (z : List ℤ) → length a ≡ 512 → length z ≡ 512
    → map (mul 12097) (convolution 6 512 (spectrum_of a) (map (residue modulus) z)) ≡ product a z
unfolding spectrum_of
product_is a z la lz =
    let f = map (λ x. x % modulus) a in
    let g = map (residue modulus) z in
    let lg : length g ≡ 512 = length-map z (residue modulus) ∙ lz in
    whole f g (length-map a (λ x. x % modulus) ∙ la) lg ∙ sym (product_residues a z la lz)
