-- The product modulo q is a product over residues alone. Assumes nothing.
use mathlib.Core.Path.{◌≡◌, refl, sym, ap, ap₂, fun_ext, ◌∙◌}
use mathlib.Core.List.{List, [], ◌∷◌, ◌++◌, map, map-map, map-append}
use Prim.Native.Nat.{ℕ, ◌-◌, ◌%◌, ◌<◌}
use lib.Dec.{lit<}
use lib.IntN.{ℤ, pos, negsuc, neg_ℤ, ◌*ℤ◌}
use lib.ListN.{length, take, drop, get_or, length-map, get_or-map}
use Rattle.laws.specs.Integers.{residue}
use Rattle.laws.specs.Lists.{zip_with}
use Rattle.laws.proofs.Products.{neg_as}
use Rattle.laws.proofs.Congruence.{Cong, residue_lt, residue_cong, residue_same, residue_small, residue_add, residue_mul}
use Rattle.laws.proofs.Pointwise.{map-take, map-drop, map-zip_with}
use Rattle.sets.specs.Numbers.{modulus}
use Rattle.polynomials.specs.Product.{times, product, shift}
use Rattle.polynomials.specs.Field.{add, mul, mix, product_modulo}
use Rattle.polynomials.proofs.Operations.{Linear, row, linear_cong}
use Rattle.polynomials.proofs.Rows.{rowsℤ, map-by_rows, times_rows}
use Rattle.polynomials.proofs.Times.{length_times}

-- the residues of a vector
abbrev pub residues : List ℤ → List ℕ
residues = map (residue modulus)

-- q is no zero
positive : 0 < modulus
positive = lit< tt

-- the residue of -x
pub residue_neg : (x : ℤ) → residue modulus (neg_ℤ x) ≡ mul 12288 (residue modulus x)
unfolding mul residue
residue_neg x = ap (residue modulus) (neg_as x) ∙ residue_mul positive (negsuc 0) x

-- the residue of a row's sum
residue_row : (a y z : ℤ) → residue modulus (row a y z) ≡ add (mul (residue modulus a) (residue modulus y)) (residue modulus z)
unfolding add mul
residue_row a y z = residue_add positive (a *ℤ y) z ∙ ap (λ r. add r (residue modulus z)) (residue_mul positive a y)

-- residues of a product by rows
residues_rows : (f g : List ℤ) → residues (rowsℤ f g) ≡ product_modulo (modulus - 1) (residues f) (residues g)
unfolding residue
residues_rows = map-by_rows (residue modulus) neg_ℤ (mul 12288) (pos 0) residue_neg row mix residue_row

-- ---- the product

-- a product has 512 coefficients
pub length_product : (a : List ℕ) (z : List ℤ) → length (product a z) ≡ 512
unfolding product
length_product a z = length-map (times (map pos a) z) (residue modulus) ∙ length_times (map pos a) z

-- each is the residue of the coefficient over whole numbers
pub product_at : (a : List ℕ) (z : List ℤ) (k : ℕ) → get_or (product a z) k 0 ≡ residue modulus (get_or (times (map pos a) z) k (pos 0))
unfolding product residue
product_at a z k = get_or-map (residue modulus) (times (map pos a) z) k (pos 0)

-- each is below q
pub product_lt : (a : List ℕ) (z : List ℤ) (k : ℕ) → get_or (product a z) k 0 < modulus
product_lt a z k = rw product_at (residue_lt positive (get_or (times (map pos a) z) k (pos 0)))

-- and congruent to it
pub times_cong_product : (a : List ℕ) (z : List ℤ) (k : ℕ) → Cong modulus (get_or (times (map pos a) z) k (pos 0)) (pos (get_or (product a z) k 0))
times_cong_product a z k = rw product_at (residue_cong positive (get_or (times (map pos a) z) k (pos 0)))

-- the product of a public key and a signed vector is the product of their residues
pub product_residues : (a : List ℕ) (z : List ℤ) → length a ≡ 512 → length z ≡ 512
    → product a z ≡ product_modulo (modulus - 1) (map (λ x. x % modulus) a) (map (residue modulus) z)
unfolding product residue
product_residues a z la lz =
    ap residues (times_rows (map pos a) z (length-map a pos ∙ la) lz)
    ∙ residues_rows (map pos a) z
    ∙ ap (λ (l : List ℕ). product_modulo (modulus - 1) l (residues z)) (map-map (residue modulus) pos a)

-- it depends on the residues of the signed vector alone
pub product_cong : (a : List ℕ) (y z : List ℤ) → length a ≡ 512 → length y ≡ 512 → length z ≡ 512
    → residues y ≡ residues z → product a y ≡ product a z
product_cong a y z la ly lz e =
    product_residues a y la ly ∙ ap (product_modulo (modulus - 1) (map (λ x. x % modulus) a)) e ∙ sym (product_residues a z la lz)

-- ---- residues of shifts, sums and differences depend on residues alone

-- residues of a shift, by residues
residues_shift_is : (i : ℕ) (s : List ℤ)
    → residues (shift i s) ≡ map (mul 12288) (drop (512 - i) (residues s)) ++ take (512 - i) (residues s)
unfolding shift
residues_shift_is i s =
    let n = 512 - i in
    map-append (residue modulus) (map neg_ℤ (drop n s)) (take n s)
    ∙ ap₂ ◌++◌
    (map-map (residue modulus) neg_ℤ (drop n s) ∙ ap (λ (f : ℤ → ℕ). map f (drop n s)) (fun_ext residue_neg) ∙ sym (map-map (mul 12288) (residue modulus) (drop n s))
    ∙ ap (map (mul 12288)) (map-drop (residue modulus) n s)) (map-take (residue modulus) n s)

-- shifts keep equal residues
pub residues_shift : (i : ℕ) (x y : List ℤ) → residues x ≡ residues y → residues (shift i x) ≡ residues (shift i y)
residues_shift i x y e =
    residues_shift_is i x ∙ ap (λ (l : List ℕ). map (mul 12288) (drop (512 - i) l) ++ take (512 - i) l) e ∙ sym (residues_shift_is i y)

module _ {o : ℤ → ℤ → ℤ} (l : Linear o) where
  -- residues of a sum, or of a difference, by residues
  residues_zip : (x y : List ℤ) → residues (zip_with o x y)
      ≡ zip_with (λ u w. residue modulus (o (pos u) (pos w))) (residues x) (residues y)
  residues_zip x y =
      map-zip_with o (λ u w. residue modulus (o (pos u) (pos w))) (residue modulus) (residue modulus) (residue modulus)
      (λ u w. residue_same positive (linear_cong l (residue_cong positive u) (residue_cong positive w))) x y

  -- sums and differences keep equal residues
  pub residues_linear : (x x' y y' : List ℤ) → residues x ≡ residues x' → residues y ≡ residues y'
      → residues (zip_with o x y) ≡ residues (zip_with o x' y')
  residues_linear x x' y y' e d = residues_zip x y ∙ ap₂ (zip_with (λ u w. residue modulus (o (pos u) (pos w)))) e d ∙ sym (residues_zip x' y')

-- a residue is its own residue
pub residues_again : (x : List ℤ) → residues (map pos (residues x)) ≡ residues x
residues_again [] = refl
residues_again (z ∷ x) = ap₂ ◌∷◌ (residue_small (residue modulus z) (residue_lt positive z)) (residues_again x)
