-- The transform: a polynomial modulo x^512 + 1 is taken apart into its remainders modulo x^8 - w for 64 numbers w, products are made of
-- remainders, and put together again. What the product is does not rest on this page (polynomials/specs/Product.antt says it).
use Rattle.std.specs.Prelude.{◌≡◌, Bool, ◌&&◌, List, ◌++◌, map, ℕ, zero, suc, ◌+◌, ◌*◌, ◌-◌, ◌/◌, ◌%◌, ◌<◌, ◌≤◌, eqb, length, get_or, take, drop}
use Rattle.laws.specs.Lists.{zip_with}
use Rattle.sets.specs.Numbers.{dimension, modulus}
use Rattle.polynomials.specs.Field.{add, mul, product_modulo}
use Rattle.ring.specs.Powers.{power}

-- x - y modulo q: q - 1 is -1
abbrev pub sub : ℕ → ℕ → ℕ
sub x y = add x (mul (modulus - 1) y)

-- every entry is at most the bound
abbrev pub Within : ℕ → List ℕ → Type 0
Within bound l = (i : ℕ) → get_or l i 0 ≤ bound

-- ---- remainders

-- the coefficients of the remainders modulo x^h - w and x^h + w, where x and y stand before x^i and x^(h + i)
abbrev pub plus : ℕ → ℕ → ℕ → ℕ
plus w x y = add x (mul w y)

abbrev pub minus : ℕ → ℕ → ℕ → ℕ
minus w x y = sub x (mul w y)

-- f modulo x^h - w, and modulo x^h + w, where f has 2h coefficients
unfoldable pub low : ℕ → ℕ → List ℕ → List ℕ
low h w f = zip_with (plus w) (take h f) (drop h f)

unfoldable pub high : ℕ → ℕ → List ℕ → List ℕ
high h w f = zip_with (minus w) (take h f) (drop h f)

-- the coefficients that are split k times
unfoldable pub size : ℕ → ℕ
size zero = 8
size (suc k) = size k + size k

-- what remains of f, split k times, modulo x^(size k) - 49^e
unfoldable pub remainders : ℕ → ℕ → List ℕ → List ℕ
remainders zero e f = f
remainders (suc k) e f =
    remainders k (e / 2) (low (size k) (power (e / 2)) f)
    ++ remainders k (e / 2 + dimension) (high (size k) (power (e / 2)) f)

-- the spectrum of a key: -1 is 49^512
unfoldable pub spectrum_of : List ℕ → List ℕ
spectrum_of a = remainders 6 dimension (map (λ x. x % modulus) a)

-- ---- the powers that it takes: those whose exponents are multiples of 8

-- each eighth entry of the table
abbrev pub root : ℕ → ℕ
root i = power (8 * i)

-- the first n entries are roots
unfoldable pub Rooted : ℕ → List ℕ → Type 0
Rooted n roots = (k : ℕ) → k < n → get_or roots k 0 ≡ root k

-- the 128 roots
unfoldable pub Roots : List ℕ → Type 0
Roots roots = (length roots ≡ 128) × Rooted 128 roots

-- whether every exponent that k splits modulo x^(size k) - 49^e take is a multiple of 8
unfoldable pub aligned : ℕ → ℕ → Bool
aligned zero e = eqb (8 * (e / 8)) e
aligned (suc k) e = eqb (8 * (e / 2 / 8)) (e / 2) && (aligned k (e / 2) && aligned k (e / 2 + dimension))

-- ---- products of remainders

-- from the remainders modulo x^h - w and x^h + w, twice what they remain of, where v w = -1
abbrev pub back : ℕ → ℕ → ℕ → ℕ
back v x y = mul v (sub y x)

unfoldable pub joined : ℕ → List ℕ → List ℕ → List ℕ
joined v l r = zip_with add l r ++ zip_with (back v) l r

-- from the remainders of f, the product of f and g modulo x^(size k) - 49^e, doubled k times
unfoldable pub convolution : ℕ → ℕ → List ℕ → List ℕ → List ℕ
convolution zero e f g = product_modulo (power e) f g
convolution (suc k) e f g =
    joined (power (dimension - e / 2))
    (convolution k (e / 2) (take (size k) f) (low (size k) (power (e / 2)) g))
    (convolution k (e / 2 + dimension) (drop (size k) f) (high (size k) (power (e / 2)) g))
