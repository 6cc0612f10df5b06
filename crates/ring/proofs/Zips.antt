-- Vectors joined entry by entry: parts, bounds, and joins of joins.
-- Assumes nothing.
use mathlib.Core.Path.{◌≡◌, refl, ap, ap₂, sym, fun_ext}
use mathlib.Core.List.{List, [], ◌∷◌, ◌++◌, map}
use Prim.Native.Nat.{ℕ, zero, suc, ◌+◌, ◌≤◌}
use native.Mathlib.Nat.{suc_inj, suc-ne-zero}
use native.Mathlib.Omega.{arith}
use lib.ListN.{length, take, drop, replicate}
use lib.Seq.{get_or-drop}
use Rattle.laws.specs.Lists.{zip_with}
use Rattle.ring.specs.Transform.{Within}

-- ---- bounds

pub within_of : {b : ℕ} (r l : List ℕ) → r ≡ l → Within b l → Within b r
within_of r l e h = rw e h

pub within_zip_with : (b : ℕ) (f : ℕ → ℕ → ℕ) → ((x y : ℕ) → f x y ≤ b) → (xs ys : List ℕ) → Within b (zip_with f xs ys)
unfolding zip_with
within_zip_with b f h [] ys i = omega arith
within_zip_with b f h (x ∷ xs) [] i = omega arith
within_zip_with b f h (x ∷ xs) (y ∷ ys) zero = h x y
within_zip_with b f h (x ∷ xs) (y ∷ ys) (suc i) = within_zip_with b f h xs ys i

pub within_map : {A : Type 0} (b : ℕ) (f : A → ℕ) → ((x : A) → f x ≤ b) → (xs : List A) → Within b (map f xs)
within_map b f h [] i = omega arith
within_map b f h (x ∷ xs) zero = h x
within_map b f h (x ∷ xs) (suc i) = within_map b f h xs i

pub within_zeros : (b n : ℕ) → Within b (replicate n 0)
within_zeros b zero i = omega arith
within_zeros b (suc n) zero = omega arith
within_zeros b (suc n) (suc i) = within_zeros b n i

pub within_append : (b : ℕ) (xs ys : List ℕ) → Within b xs → Within b ys → Within b (xs ++ ys)
within_append b [] ys p q i = q i
within_append b (x ∷ xs) ys p q zero = p 0
within_append b (x ∷ xs) ys p q (suc i) = within_append b xs ys (λ j. p (suc j)) q i

pub within_take : (b n : ℕ) (xs : List ℕ) → Within b xs → Within b (take n xs)
within_take b zero xs p i = omega arith
within_take b (suc n) [] p i = omega arith
within_take b (suc n) (x ∷ xs) p zero = p 0
within_take b (suc n) (x ∷ xs) p (suc i) = within_take b n xs (λ j. p (suc j)) i

pub within_drop : (b n : ℕ) (xs : List ℕ) → Within b xs → Within b (drop n xs)
within_drop b n xs p i = rw get_or-drop (p (n + i))

-- ---- joins of joins

-- a vector g that two joins share
pub shared : (p m n k : ℕ → ℕ → ℕ) → ((y z u : ℕ) → p (m y z) (n y u) ≡ k y (p z u)) → (g t u : List ℕ)
    → zip_with p (zip_with m g t) (zip_with n g u) ≡ zip_with k g (zip_with p t u)
unfolding zip_with
shared p m n k h [] t u = refl
shared p m n k h (y ∷ g) [] u = refl
shared p m n k h (y ∷ g) (z ∷ t) [] = refl
shared p m n k h (y ∷ g) (z ∷ t) (u ∷ v) = ap₂ ◌∷◌ (h y z u) (shared p m n k h g t v)

-- three vectors, joined from the right or from the left
pub joined_later : (k p m n : ℕ → ℕ → ℕ) → ((y z u : ℕ) → k y (p z u) ≡ n (m y z) u) → (g t u : List ℕ)
    → zip_with k g (zip_with p t u) ≡ zip_with n (zip_with m g t) u
unfolding zip_with
joined_later k p m n h [] t u = refl
joined_later k p m n h (y ∷ g) [] u = refl
joined_later k p m n h (y ∷ g) (z ∷ t) [] = refl
joined_later k p m n h (y ∷ g) (z ∷ t) (u ∷ v) = ap₂ ◌∷◌ (h y z u) (joined_later k p m n h g t v)

pub zip_with-map : (p : ℕ → ℕ → ℕ) (r : ℕ → ℕ) (xs ys : List ℕ) → zip_with p xs (map r ys) ≡ zip_with (λ x y. p x (r y)) xs ys
unfolding zip_with
zip_with-map p r [] ys = refl
zip_with-map p r (x ∷ xs) [] = refl
zip_with-map p r (x ∷ xs) (y ∷ ys) = ap (λ (l : List ℕ). p x (r y) ∷ l) (zip_with-map p r xs ys)

-- two joins of the same two vectors, mapped and joined
pub both_joins : (o a b : ℕ → ℕ → ℕ) (g : ℕ → ℕ) (xs ys : List ℕ)
    → zip_with o (map g (zip_with a xs ys)) (map g (zip_with b xs ys)) ≡ zip_with (λ x y. o (g (a x y)) (g (b x y))) xs ys
unfolding zip_with
both_joins o a b g [] ys = refl
both_joins o a b g (x ∷ xs) [] = refl
both_joins o a b g (x ∷ xs) (y ∷ ys) = ap (λ (l : List ℕ). o (g (a x y)) (g (b x y)) ∷ l) (both_joins o a b g xs ys)

pub join_first : (g : ℕ → ℕ) (xs ys : List ℕ) → length xs ≡ length ys → zip_with (λ x y. g x) xs ys ≡ map g xs
unfolding zip_with
join_first g [] ys e = refl
join_first g (x ∷ xs) [] e = absurd (suc-ne-zero (length xs) e)
join_first g (x ∷ xs) (y ∷ ys) e = ap (λ (l : List ℕ). g x ∷ l) (join_first g xs ys (suc_inj e))

pub join_second : (g : ℕ → ℕ) (xs ys : List ℕ) → length xs ≡ length ys → zip_with (λ x y. g y) xs ys ≡ map g ys
unfolding zip_with
join_second g [] [] e = refl
join_second g [] (y ∷ ys) e = absurd (suc-ne-zero (length ys) (sym e))
join_second g (x ∷ xs) [] e = absurd (suc-ne-zero (length xs) e)
join_second g (x ∷ xs) (y ∷ ys) e = ap (λ (l : List ℕ). g y ∷ l) (join_second g xs ys (suc_inj e))

pub zip_with_alike : {f g : ℕ → ℕ → ℕ} → ((x y : ℕ) → f x y ≡ g x y) → (xs ys : List ℕ) → zip_with f xs ys ≡ zip_with g xs ys
zip_with_alike h xs ys = ap (λ (k : ℕ → ℕ → ℕ). zip_with k xs ys) (fun_ext (λ x. fun_ext (λ y. h x y)))

-- ---- maps

-- what leaves each number within the bound as it is leaves a vector of them
pub map_same : (b : ℕ) (g : ℕ → ℕ) → ((x : ℕ) → x ≤ b → g x ≡ x) → (l : List ℕ) → Within b l → map g l ≡ l
map_same b g h [] s = refl
map_same b g h (x ∷ l) s = ap₂ ◌∷◌ (h x (s 0)) (map_same b g h l (λ i. s (suc i)))
