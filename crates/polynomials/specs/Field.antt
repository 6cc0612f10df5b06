-- Products made row by row, and the product over residues modulo q that is made so: the form that the transform is proved against.
use Rattle.std.specs.Prelude.{List, [], ◌∷◌, ℕ, ◌+◌, ◌*◌, ◌-◌, ◌%◌, length, get_or, take, replicate}
use Rattle.laws.specs.Lists.{zip_with}
use Rattle.sets.specs.Numbers.{modulus}

-- x times h, where h has n coefficients: what stands before x^n returns at the bottom, as `back` turns it
unfoldable pub turned : {A : Type 0} → (A → A) → A → List A → List A
turned back none h = back (get_or h (length h - 1) none) ∷ take (length h - 1) h

-- f times g, a row for each coefficient of f: `row a y z` is a y + z
unfoldable pub by_rows : {A : Type 0} → (A → A → A → A) → (A → A) → A → List A → List A → List A
by_rows row back none [] g = replicate (length g) none
by_rows row back none (a ∷ f) g = zip_with (row a) g (turned back none (by_rows row back none f g))

-- ---- over residues

-- x + y modulo q
unfoldable pub add : ℕ → ℕ → ℕ
add x y = (x + y) % modulus

-- x y modulo q
unfoldable pub mul : ℕ → ℕ → ℕ
mul x y = x * y % modulus

-- one term more of a product
abbrev pub mix : ℕ → ℕ → ℕ → ℕ
mix a y z = add (mul a y) z

-- x times h, modulo x^n - w, where h has n coefficients
abbrev pub turn : ℕ → List ℕ → List ℕ
turn w h = turned (mul w) 0 h

-- f times g, modulo x^n - w, where g has n coefficients; q - 1 is -1
abbrev pub product_modulo : ℕ → List ℕ → List ℕ → List ℕ
product_modulo w f g = by_rows mix (mul w) 0 f g
