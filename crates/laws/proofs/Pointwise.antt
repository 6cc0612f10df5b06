-- Operations on vectors entry by entry, `map` and `zip_with`: they commute with one another and with parts. Assumes nothing.
use mathlib.Core.Path.{◌≡◌, refl, sym, ap, ap₂}
use mathlib.Core.List.{List, [], ◌∷◌, map}
use Prim.Native.Nat.{ℕ, zero, suc}
use lib.ListN.{take, drop, replicate}
use Rattle.laws.specs.Lists.{zip_with}

module _ {A B : Type 0} (f : A → B) where
  pub map-take : (n : ℕ) (xs : List A) → map f (take n xs) ≡ take n (map f xs)
  map-take zero xs = refl
  map-take (suc n) [] = refl
  map-take (suc n) (x ∷ xs) = ap (λ (l : List B). f x ∷ l) (map-take n xs)

  pub map-drop : (n : ℕ) (xs : List A) → map f (drop n xs) ≡ drop n (map f xs)
  map-drop zero xs = refl
  map-drop (suc n) [] = refl
  map-drop (suc n) (x ∷ xs) = map-drop n xs

module _ {A B C : Type 0} (f : A → B → C) where
  pub take-zip_with : (n : ℕ) (xs : List A) (ys : List B) → take n (zip_with f xs ys) ≡ zip_with f (take n xs) (take n ys)
  unfolding zip_with
  take-zip_with zero xs ys = refl
  take-zip_with (suc n) [] ys = refl
  take-zip_with (suc n) (x ∷ xs) [] = refl
  take-zip_with (suc n) (x ∷ xs) (y ∷ ys) = ap (λ (l : List C). f x y ∷ l) (take-zip_with n xs ys)

  zip_with-nil : (xs : List A) → zip_with f xs [] ≡ []
  unfolding zip_with
  zip_with-nil [] = refl
  zip_with-nil (x ∷ xs) = refl

  pub drop-zip_with : (n : ℕ) (xs : List A) (ys : List B) → drop n (zip_with f xs ys) ≡ zip_with f (drop n xs) (drop n ys)
  unfolding zip_with
  drop-zip_with zero xs ys = refl
  drop-zip_with (suc n) [] ys = refl
  drop-zip_with (suc n) (x ∷ xs) [] = sym (zip_with-nil (drop n xs))
  drop-zip_with (suc n) (x ∷ xs) (y ∷ ys) = drop-zip_with n xs ys

  pub zip_with-replicate : (n : ℕ) (x : A) (y : B) → zip_with f (replicate n x) (replicate n y) ≡ replicate n (f x y)
  unfolding zip_with
  zip_with-replicate zero x y = refl
  zip_with-replicate (suc n) x y = ap (λ (l : List C). f x y ∷ l) (zip_with-replicate n x y)

  -- a map that takes f to g entry by entry takes joined vectors to joined vectors
  pub map-zip_with : {A' B' C' : Type 0} (g : A' → B' → C') (a : A → A') (b : B → B') (c : C → C') → ((x : A) (y : B) → c (f x y) ≡ g (a x) (b y))
      → (xs : List A) (ys : List B) → map c (zip_with f xs ys) ≡ zip_with g (map a xs) (map b ys)
  unfolding zip_with
  map-zip_with g a b c h [] ys = refl
  map-zip_with g a b c h (x ∷ xs) [] = refl
  map-zip_with g a b c h (x ∷ xs) (y ∷ ys) = ap₂ ◌∷◌ (h x y) (map-zip_with g a b c h xs ys)

-- two operations that commute on numbers commute on vectors
pub zip_with_medial : {A : Type 0} (f g : A → A → A) → ((w x y z : A) → f (g w x) (g y z) ≡ g (f w y) (f x z))
    → (ws xs ys zs : List A) → zip_with f (zip_with g ws xs) (zip_with g ys zs) ≡ zip_with g (zip_with f ws ys) (zip_with f xs zs)
unfolding zip_with
zip_with_medial f g h [] xs ys zs = refl
zip_with_medial f g h (w ∷ ws) [] [] zs = refl
zip_with_medial f g h (w ∷ ws) [] (y ∷ ys) zs = refl
zip_with_medial f g h (w ∷ ws) (x ∷ xs) [] zs = refl
zip_with_medial f g h (w ∷ ws) (x ∷ xs) (y ∷ ys) [] = refl
zip_with_medial f g h (w ∷ ws) (x ∷ xs) (y ∷ ys) (z ∷ zs) = ap₂ ◌∷◌ (h w x y z) (zip_with_medial f g h ws xs ys zs)
