-- What `array::from_fn` makes of a list, and the first of a row's chunks. Assumes nothing.
use Rattle.std.proofs.Common.{◌≡◌, refl, sym, subst, ap, ◌∙◌, List, ◌∷◌, ℕ, zero, suc, ◌+◌, ◌<◌, ◌≤◌, map, take, drop, length, get_or, arith}
use Rattle.std.proofs.lemmas.List.{same_lists, length-map, length-take-le, get_or-map, get_or-take}
use Rattle.std.specs.Array.{IsFromFnResult, IsFromFnResultFrom}
use Rattle.std.specs.Simd.{first_chunks}
use denote.Param.Members.{Mut, Called}

-- a closure that decodes the entry at its index, and that no call changes
module _ {F A B : Type 0} {g : Mut F (ℕ × Unit {0}) B} {f : F} (decode : A → B) (xs : List A) (e : A) (n : ℕ) (ys : List B)
    (gives : (i : ℕ) (y : B) (q : F) → Called g f (i, tt) y q → (q ≡ f) × (y ≡ decode (get_or xs i e))) where
  each : (m i : ℕ) → IsFromFnResultFrom g f ys i m → (k j : ℕ) (d : B) → k < m → i + k ≡ j → get_or ys j d ≡ decode (get_or xs j e)
  each zero i h k j d l at = absurd (omega arith)
  each (suc m) i h zero j d l at = subst (λ j. get_or ys j d ≡ decode (get_or xs j e)) (omega arith) (h.2.1 d ∙ (gives i h.1 h.0 h.3).1)
  each (suc m) i h (suc k) j d l at =
      each m (i + 1) (subst (λ q. IsFromFnResultFrom g q ys (i + 1) m) (gives i h.1 h.0 h.3).0 h.4) k j d (omega arith) (omega arith)

  pub made : IsFromFnResult g f ys n → n ≤ length xs → ys ≡ map decode (take n xs)
  made h enough =
      let full = length-take-le n xs enough in
      same_lists ys (map decode (take n xs)) (h.long ∙ sym (length-map (take n xs) decode ∙ full))
      (λ k d l. let inside : k < n = omega (arith, h.long) in
      each n 0 h.each k k d inside (omega arith) ∙ ap decode (sym (get_or-take n xs k e inside)) ∙ sym (get_or-map decode (take n xs) k e d (omega (arith, full))))

take-first_chunks : {A : Type 0} (width k m : ℕ) (xs : List A) → k ≤ m → take k (first_chunks width m xs) ≡ first_chunks width k xs
take-first_chunks width zero m xs h = refl
take-first_chunks width (suc k) zero xs h = absurd (omega arith)
take-first_chunks width (suc k) (suc m) xs h = ap (λ rest. take width xs ∷ rest) (take-first_chunks width k m (drop width xs) (omega arith))

pub chunks : {A : Type 0} (width k m : ℕ) {all : List (List A)} {xs ys : List A} → k ≤ m → all ≡ first_chunks width m xs → xs ≡ ys → take k all ≡ first_chunks width k ys
chunks width k m {ys = ys} h is same = ap (take k) (is ∙ ap (first_chunks width m) same) ∙ take-first_chunks width k m ys h
