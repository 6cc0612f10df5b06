-- The sums: their number and their range, and a loop that makes sums in a vector's place. Assumes nothing.
use mathlib.Core.Path.{◌≡◌, sym, ap, ◌∙◌}
use mathlib.Core.List.{List, [], ◌∷◌}
use Prim.Native.Nat.{ℕ, zero, suc, ◌+◌, ◌<◌, ◌≤◌}
use native.Mathlib.Omega.{arith}
use lib.Dec.{lit<}
use lib.IntN.{ℤ}
use lib.ListN.{length, get_or, set as update}
use Rattle.laws.specs.Lists.{zip_with}
use Rattle.laws.proofs.Congruence.{residue_lt}
use Rattle.laws.proofs.Entries.{length-zip_with, get_or-zip_with}
use Rattle.laws.proofs.Loops.{Rewritten, next_is, more, finish}
use Rattle.sets.specs.Numbers.{dimension, twice_modulus}
use Rattle.polynomials.specs.Product.{product}
use Rattle.polynomials.proofs.Residues.{length_product}
use Rattle.rounding.specs.Rounding.{summed}
use Rattle.commitment.specs.Commitment.{is_reduced, sums}

summed_lt : (t : ℕ) (y : ℤ) → summed t y < twice_modulus
unfolding summed
summed_lt t y = residue_lt (lit< tt) _

pub reduced_zip : (t : List ℕ) (y : List ℤ) → is_reduced (zip_with summed t y)
unfolding zip_with
reduced_zip [] y k = lit< tt
reduced_zip (x ∷ t) [] k = lit< tt
reduced_zip (x ∷ t) (z ∷ y) zero = summed_lt x z
reduced_zip (x ∷ t) (z ∷ y) (suc k) = reduced_zip t y k

pub sums_reduced : (a : List ℕ) (y1 y2 : List ℤ) → is_reduced (sums a y1 y2)
unfolding sums
sums_reduced a y1 y2 = reduced_zip (product a y1) y2

pub length_sums : (a : List ℕ) (y1 y2 : List ℤ) → length y2 ≡ dimension → length (sums a y1 y2) ≡ dimension
unfolding sums
length_sums a y1 y2 e = length-zip_with summed (product a y1) y2 (length_product a y1 ∙ sym e) ∙ length_product a y1

-- a loop that joins each entry of a vector with another's at its place
module _ {A B : Type 0} (f : A → B → A) (l : List A) (m : List B) (same : length l ≡ length m) {i : ℕ} {now : List A} (so : Rewritten l (zip_with f l m) i now) where
  pub joined_next : (a : A) (b : B) (x : A) → i < length l → x ≡ f (get_or now i a) (get_or m i b) → Rewritten l (zip_with f l m) (i + 1) (update now i x)
  joined_next a b x h e =
      let long = length-zip_with f l m same in
      more l (zip_with f l m) long so a x h (e ∙ ap (λ (y : A). f y (get_or m i b)) (next_is l (zip_with f l m) long so a h) ∙ sym (get_or-zip_with f l m i a b a h (omega arith)))

  pub joined_all : length l ≤ i → now ≡ zip_with f l m
  joined_all h = finish l (zip_with f l m) (length-zip_with f l m same) so h
