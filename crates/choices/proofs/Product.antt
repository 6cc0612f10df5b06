-- v = S c' (01, "Response"), and what follows for the public key: a v1 = v2 modulo q. Assumes nothing.
use mathlib.Core.Path.{◌≡◌, sym, ap, ap₂, ◌∙◌}
use mathlib.Core.Bool.{true}
use mathlib.Core.List.{List}
use Prim.Native.Nat.{ℕ}
use native.Mathlib.Omega.{arith}
use lib.IntN.{ℤ, pos}
use lib.ListN.{length, length-replicate}
use Rattle.laws.specs.Lists.{every, zip_with}
use Rattle.sets.specs.Numbers.{dimension}
use Rattle.polynomials.specs.Product.{times, shift, one}
use Rattle.polynomials.proofs.Carries.{Carries, carries_zero, carries_shift, carries_linear}
use Rattle.polynomials.proofs.One.{length-one, times_one}
use Rattle.polynomials.proofs.Shift.{length_shift}
use Rattle.polynomials.proofs.Times.{times_zero, times_linear, times_shift}
use Rattle.vectors.specs.Places.{is_place}
use Rattle.vectors.specs.Pairs.{Pair, pair}
use Rattle.choices.specs.Choices.{choices}
use Rattle.choices.specs.Signs.{signed_sum, signs}
use Rattle.choices.proofs.Pairs.{Sized}
use Rattle.choices.proofs.Sums.{choices_sums, added_if_linear, added_if-length, sums_keep}

module _ (s : Pair) (key : Sized s) (l : List ℕ) (places : every is_place l ≡ true) where
  -- the signed sum of x^i a is a times c'
  sum_times : (a : List ℤ) → length a ≡ dimension → signed_sum s l a ≡ times a (signs s l)
  unfolding signs
  sum_times a la =
      (sums_keep a one (λ n x y. (length y ≡ dimension) × (x ≡ times a y))
      (λ b n i x y h r.
      let place = times_shift a la i one (omega arith) length-one ∙ ap (shift i) (times_one a la) in (
        added_if-length b i y one r.0 length-one,
        ap₂ (zip_with _) r.1 (sym place) ∙ sym (times_linear a la y (shift i one) r.0 (length_shift i one ∙ length-one) (added_if_linear b)),
      )) s l places (length-replicate dimension (pos 0), sym (times_zero a la))).1

  -- v = S c': v1 = s1 c' and v2 = s2 c'
  pub choices_product : choices s l ≡ pair (times s.first (signs s l)) (times s.second (signs s l))
  choices_product = choices_sums s l ∙ ap₂ pair (sum_times s.first key.first) (sum_times s.second key.second)

  -- if a s1 = s2 modulo q, then a v1 = v2 modulo q
  pub choices_carries : (a : List ℕ) → length a ≡ dimension → Carries a s.first s.second → Carries a (choices s l).first (choices s l).second
  choices_carries a la c =
      rw (choices_sums s l)
      (sums_keep s.first s.second (λ n x y. (length x ≡ dimension) × Carries a x y)
      (λ b n i x y h r. (
        added_if-length b i x s.first r.0 key.first,
        carries_linear a la r.0 (length_shift i s.first ∙ key.first) r.1 (carries_shift a la i (omega arith) key.first c) (added_if_linear b),
      )) s l places (length-replicate dimension (pos 0), carries_zero a la)).1
