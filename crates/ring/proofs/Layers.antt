-- One layer of the transform, as the code makes it. And what the table and the roots hold.
-- Assumes nothing.
use mathlib.Core.Path.{◌≡◌, refl, ap, ap₂, sym, ◌∙◌}
use mathlib.Core.Bool.{true, ◌&&◌}
use mathlib.Core.List.{List, ◌++◌}
use Prim.Native.Nat.{ℕ, zero, suc, ◌+◌, ◌*◌, ◌-◌, ◌/◌, ◌%◌, ◌<◌, ◌≤◌}
use native.Mathlib.Nat.{not-suc-le-zero}
use native.Mathlib.Omega.{arith}
use borrow.Author.Tests.{eqb-true}
use lib.Dec.{eqb}
use lib.ListN.{length, take, drop, get_or, length-drop}
use lib.Seq.{length-take-le}
use Rattle.laws.proofs.Chain.{and_left, and_right}
use Rattle.laws.proofs.Entries.{length-tabulate, get_or-tabulate, length-zip_with}
use Rattle.laws.specs.Lists.{tabulate, zip_with}
use Rattle.sets.specs.Numbers.{dimension}
use Rattle.ring.specs.Powers.{power, Powers}
use Rattle.polynomials.specs.Field.{add, product_modulo}
use Rattle.ring.specs.Transform.{Within, plus, minus, low, high, size, remainders, Rooted, Roots, aligned, back, joined, convolution}
use Rattle.ring.proofs.Zips.{within_of, within_take, within_drop}
use Rattle.ring.proofs.Products.{length_low}
use Rattle.ring.proofs.Spectra.{within_low, within_high}

-- ---- the table

pub power_at : (t : List ℕ) → Powers t → (i : ℕ) → i < 1024 → get_or t i 0 ≡ power i
unfolding Powers
power_at t p i h = ap (λ (l : List ℕ). get_or l i 0) p ∙ get_or-tabulate power 1024 i 0 h

-- ---- the roots

-- the 128 roots are each eighth entry of the table
pub roots_of : (t : List ℕ) → Powers t → Roots (tabulate (λ i. get_or t (8 * i) 0) 128)
unfolding Rooted Roots
roots_of t p =
    let entry : ℕ → ℕ = λ i. get_or t (8 * i) 0 in
    (length-tabulate entry 128, λ k h. get_or-tabulate entry 128 k 0 h ∙ power_at t p (8 * k) (omega arith))

-- the root whose exponent is d
pub root_at : (t : List ℕ) → Roots (tabulate (λ i. get_or t (8 * i) 0) 128) → (d : ℕ) → d < 1024 → d % 8 ≡ 0 → get_or t d 0 ≡ power d
unfolding Rooted Roots
root_at t p d h m =
    let entry : ℕ → ℕ = λ i. get_or t (8 * i) 0 in
    let same : 8 * (d / 8) ≡ d = omega arith in
    rw same at (sym (get_or-tabulate entry 128 (d / 8) 0 (omega arith)) ∙ p.1 (d / 8) (omega arith))

-- the exponent of every power that the transform takes is a multiple of 8
pub in_eighths : aligned 6 dimension ≡ true
unfolding aligned
in_eighths = refl

-- what a split of aligned exponents takes and leaves
pub aligned_split : (k e : ℕ) → 0 < k → aligned k e ≡ true
    → (8 * (e / 2 / 8) ≡ e / 2) × (aligned (k - 1) (e / 2) ≡ true) × (aligned (k - 1) (e / 2 + 512) ≡ true)
unfolding aligned
aligned_split zero e p o = absurd (not-suc-le-zero p)
aligned_split (suc k) e p o =
    let d : suc k - 1 ≡ k = omega arith in
    let here = eqb (8 * (e / 2 / 8)) (e / 2) in
    let lower = aligned k (e / 2) in
    let upper = aligned k (e / 2 + 512) in
    let rest : lower && upper ≡ true = and_right here (lower && upper) o in
    rw d (eqb-true (8 * (e / 2 / 8)) (e / 2) (and_left here (lower && upper) o), and_left lower upper rest, and_right lower upper rest)

-- ---- sizes

pub halved : (k n : ℕ) → 0 < k → n ≡ size k → (n / 2 ≡ size (k - 1)) × (n ≡ n / 2 + n / 2)
unfolding size
halved zero n p e = absurd (not-suc-le-zero p)
halved (suc k) n p e =
    let d : suc k - 1 ≡ k = omega arith in
    rw d (omega arith, omega arith)

size_leaf : (k : ℕ) → k ≤ 0 → size k ≡ 8
unfolding size
size_leaf zero p = refl
size_leaf (suc k) p = absurd (not-suc-le-zero p)

-- the last split is of 16 coefficients
pub last_size : (k n : ℕ) → 0 < k → k ≤ 1 → n ≡ size k → (8 ≡ size (k - 1)) × (n ≡ 16)
last_size k n p q e =
    let eight = size_leaf (k - 1) (omega arith) in
    (sym eight, omega (arith, eight, halved k n p e))

-- ---- the layers of the definitions

remainders_step : (k e : ℕ) (l : List ℕ) → 0 < k
    → remainders k e l ≡ remainders (k - 1) (e / 2) (low (size (k - 1)) (power (e / 2)) l) ++ remainders (k - 1) (e / 2 + 512) (high (size (k - 1)) (power (e / 2)) l)
unfolding remainders
remainders_step zero e l p = absurd (not-suc-le-zero p)
remainders_step (suc k) e l p = let d : suc k - 1 ≡ k = omega arith in rw d

pub remainders_leaf : (k e : ℕ) (l : List ℕ) → k ≤ 0 → l ≡ remainders k e l
unfolding remainders
remainders_leaf zero e l p = refl
remainders_leaf (suc k) e l p = absurd (not-suc-le-zero p)

convolution_step : (k e : ℕ) (f g : List ℕ) → 0 < k
    → convolution k e f g ≡ joined (power (512 - e / 2))
    (convolution (k - 1) (e / 2) (take (size (k - 1)) f) (low (size (k - 1)) (power (e / 2)) g))
    (convolution (k - 1) (e / 2 + 512) (drop (size (k - 1)) f) (high (size (k - 1)) (power (e / 2)) g))
unfolding convolution
convolution_step zero e f g p = absurd (not-suc-le-zero p)
convolution_step (suc k) e f g p = let d : suc k - 1 ≡ k = omega arith in rw d

-- a block is not split
pub blocks : (k e w : ℕ) (f g : List ℕ) → k ≤ 0 → w ≡ power e → product_modulo w f g ≡ convolution k e f g
unfolding convolution
blocks zero e w f g p is = ap (λ (v : ℕ). product_modulo v f g) is
blocks (suc k) e w f g p is = absurd (not-suc-le-zero p)

-- ---- a layer as the code makes it: the halves of a polynomial are lent, and split

-- the halves of a polynomial are within the bound that it is within
pub within_halves : {b : ℕ} (h : ℕ) (s x y : List ℕ) → x ≡ take h s → y ≡ drop h s → Within b s → (Within b x) × (Within b y)
within_halves {b} h s x y ex ey p = (within_of x (take h s) ex (within_take b h s p), within_of y (drop h s) ey (within_drop b h s p))

-- the polynomial s, of size k, has the halves x and y, which its split by w leaves as x' and y'
pub record Layer (k e h w : ℕ) (s x y x' y' : List ℕ) : Type 0 where
  pub deep : 0 < k
  pub half : h ≡ size (k - 1)
  pub two : length s ≡ h + h
  pub first : x ≡ take h s
  pub second : y ≡ drop h s
  pub root : w ≡ power (e / 2)
  pub lower : x' ≡ zip_with (plus w) x y
  pub upper : y' ≡ zip_with (minus w) x y

pub layer_of : (k e w : ℕ) (s x y x' y' : List ℕ) → 0 < k → length s ≡ size k → x ≡ take (length s / 2) s → y ≡ drop (length s / 2) s
    → w ≡ power (e / 2) → x' ≡ zip_with (plus w) x y → y' ≡ zip_with (minus w) x y → Layer k e (length s / 2) w s x y x' y'
layer_of k e w s x y x' y' deep sized ex ey ew el eu =
    let halves = halved k (length s) deep sized in
    record { deep = deep; half = halves.0; two = halves.1; first = ex; second = ey; root = ew; lower = el; upper = eu }

module _ {k e h w : ℕ} {s x y x' y' : List ℕ} (layer : Layer k e h w s x y x' y') where
  lower_is : x' ≡ low h w s
  unfolding low
  lower_is = layer.lower ∙ ap₂ (zip_with (plus w)) layer.first layer.second

  upper_is : y' ≡ high h w s
  unfolding high
  upper_is = layer.upper ∙ ap₂ (zip_with (minus w)) layer.first layer.second

  pub lower_long : length x' ≡ size (k - 1)
  lower_long = ap length lower_is ∙ length_low w h s layer.two ∙ layer.half

  pub upper_long : length y' ≡ size (k - 1)
  upper_long =
      ap length layer.upper
      ∙ length-zip_with (minus w) x y (ap length layer.first ∙ length-take-le h s (omega (arith, layer.two)) ∙ omega (arith, length-drop h s, layer.two, ap length layer.second))
      ∙ ap length layer.first ∙ length-take-le h s (omega (arith, layer.two)) ∙ layer.half

  pub within_lower : Within 12288 x'
  within_lower = within_of x' _ lower_is (within_low w h s)

  pub within_upper : Within 12288 y'
  within_upper = within_of y' _ upper_is (within_high w h s)

  -- of what it is made, by the definitions
  lower_part : x' ≡ low (size (k - 1)) (power (e / 2)) s
  lower_part = lower_is ∙ ap₂ (λ (n v : ℕ). low n v s) layer.half layer.root

  upper_part : y' ≡ high (size (k - 1)) (power (e / 2)) s
  upper_part = upper_is ∙ ap₂ (λ (n v : ℕ). high n v s) layer.half layer.root

  -- m and n are what becomes of the halves
  pub remains : (m n : List ℕ) → m ≡ remainders (k - 1) (e / 2) x' → n ≡ remainders (k - 1) (e / 2 + 512) y' → m ++ n ≡ remainders k e s
  remains m n em en =
      ap₂ ◌++◌ (em ∙ ap (remainders (k - 1) (e / 2)) lower_part) (en ∙ ap (remainders (k - 1) (e / 2 + 512)) upper_part) ∙ sym (remainders_step k e s layer.deep)

  -- the same with the halves of f, and l and r are what is joined of m and n
  pub convolves : (f fx fy m n l r : List ℕ) (v : ℕ) → fx ≡ take h f → fy ≡ drop h f → v ≡ power (512 - e / 2)
      → m ≡ convolution (k - 1) (e / 2) fx x' → n ≡ convolution (k - 1) (e / 2 + 512) fy y'
      → l ≡ zip_with add m n → r ≡ zip_with (back v) m n → l ++ r ≡ convolution k e f s
  unfolding joined
  convolves f fx fy m n l r v ex ey ev em en el er =
      let em' = em ∙ ap₂ (convolution (k - 1) (e / 2)) (ex ∙ ap (λ (i : ℕ). take i f) layer.half) lower_part in
      let en' = en ∙ ap₂ (convolution (k - 1) (e / 2 + 512)) (ey ∙ ap (λ (i : ℕ). drop i f) layer.half) upper_part in
      ap₂ ◌++◌ (el ∙ ap₂ (zip_with add) em' en') (er ∙ ap (λ (u : ℕ). zip_with (back u) m n) ev ∙ ap₂ (zip_with (back (power (512 - e / 2)))) em' en')
      ∙ sym (convolution_step k e f s layer.deep)
