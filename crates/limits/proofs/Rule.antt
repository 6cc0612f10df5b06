-- The length rule as a chain of outcomes, and what it tells where it is kept. Assumes nothing.
use mathlib.Core.Path.{◌≡◌, refl, ◌∙◌, ap}
use mathlib.Core.Bool.{Bool, true, false}
use mathlib.Core.List.{List, [], ◌∷◌}
use Prim.Native.Nat.{ℕ, zero, suc, ◌+◌, ◌*◌, ◌^◌, ◌<◌, ◌≤◌}
use native.Mathlib.Nat.{mul-le-mul, le_refl}
use native.Mathlib.Omega.{arith}
use borrow.Author.Tests.{leb-true}
use lib.Dec.{leb}
use lib.IntN.{ℤ, pos, nat_abs}
use lib.ListN.{length, get_or}
use Rattle.laws.specs.Refusals.{must}
use Rattle.sets.specs.declared.Set.{Set}
use Rattle.sets.specs.Numbers.{dimension, d_of, largest_of, bound_squared_of}
use Rattle.answers.specs.Outcomes.{Outcome, Done, is_done, unless}
use Rattle.std.specs.Prelude.{Err}
use Rattle.answers.specs.declared.Refusal.TheVariants.{EntryBeyond, SumAbove}
use Rattle.answers.proofs.Calls.{done_test, done_next}
use Rattle.vectors.specs.Vectors.{squares}
use Rattle.vectors.proofs.Sums.{squares_le}
use Rattle.limits.specs.LengthRule.{entries, length_rule}

-- ---- the search alone, and then what follows
module _ (limit factor : ℕ) (next : Outcome) where
  pub entries_then : (place : ℕ) (x : List ℤ) → entries limit factor place x next ≡ unless (entries limit factor place x Done) (λ o. o) next
  unfolding entries
  entries_then place [] = refl
  entries_then place (a ∷ x) = either _ _ (leb (factor * nat_abs a) limit) (entries_then (suc place) x)
    where
      either : (p q : Outcome) (b : Bool) → p ≡ unless q (λ o. o) next → must b (Err (EntryBeyond place)) p ≡ unless (must b (Err (EntryBeyond place)) q) (λ o. o) next
      either p q true e = e
      either p q false e = refl

  pub entries_within : (place : ℕ) (x : List ℤ) → is_done (entries limit factor place x next) ≡ true → (k : ℕ) → factor * nat_abs (get_or x k (pos 0)) ≤ limit
  unfolding entries
  entries_within place [] e k = omega arith
  entries_within place (a ∷ x) e zero = leb-true _ limit (done_test (Err (EntryBeyond place)) (entries limit factor (suc place) x next) refl _ e)
  entries_within place (a ∷ x) e (suc k) =
      entries_within (suc place) x (done_next (Err (EntryBeyond place)) (entries limit factor (suc place) x next) refl (leb (factor * nat_abs a) limit) e) k

  pub entries_next : (place : ℕ) (x : List ℤ) → is_done (entries limit factor place x next) ≡ true → is_done next ≡ true
  unfolding entries
  entries_next place [] e = e
  entries_next place (a ∷ x) e =
      entries_next (suc place) x (done_next (Err (EntryBeyond place)) (entries limit factor (suc place) x next) refl (leb (factor * nat_abs a) limit) e)

-- a vector whose entries are within a limit of 15 bits, times a factor or not, has a squared length of 39 bits
pub squares_small : (limit factor place : ℕ) (x : List ℤ) → limit < 2 ^ 15 → 1 ≤ factor → length x ≡ dimension → is_done (entries limit factor place x Done) ≡ true
    → squares x < 2 ^ 39
squares_small limit factor place x small one long e = omega (arith, squares_le 32767 x each)
  where
    each : (k : ℕ) → nat_abs (get_or x k (pos 0)) ≤ 32767
    each k = omega (arith, mul-le-mul one (le_refl (nat_abs (get_or x k (pos 0)))), entries_within limit factor Done place x e k)

module _ (s : Set) (z1 z2 : List ℤ) where
  abbrev sum_test : Outcome
  sum_test = must (leb (squares z1 + 4 ^ d_of s * squares z2) (bound_squared_of s)) (Err SumAbove) Done

  abbrev second_test : Outcome
  second_test = entries (largest_of s) (2 ^ d_of s) dimension z2 sum_test

  pub rule_chain : length_rule s z1 z2
      ≡ unless (entries (largest_of s) 1 0 z1 Done) (λ o. o) (unless (entries (largest_of s) (2 ^ d_of s) dimension z2 Done) (λ o. o) sum_test)
  unfolding length_rule
  rule_chain =
      entries_then (largest_of s) 1 second_test 0 z1
      ∙ ap (λ (o : Outcome). unless (entries (largest_of s) 1 0 z1 Done) (λ o. o) o) (entries_then (largest_of s) (2 ^ d_of s) sum_test dimension z2)

  -- ---- a signature that keeps the rule
  module _ (kept : length_rule s z1 z2 ≡ Done) where
    done : is_done (entries (largest_of s) 1 0 z1 second_test) ≡ true
    unfolding length_rule
    done = ap is_done kept

    after_first : is_done second_test ≡ true
    after_first = entries_next (largest_of s) 1 second_test 0 z1 done

    pub first_within : (k : ℕ) → nat_abs (get_or z1 k (pos 0)) ≤ largest_of s
    first_within k = omega (arith, entries_within (largest_of s) 1 second_test 0 z1 done k)

    pub second_within : (k : ℕ) → 2 ^ d_of s * nat_abs (get_or z2 k (pos 0)) ≤ largest_of s
    second_within = entries_within (largest_of s) (2 ^ d_of s) sum_test dimension z2 after_first

    pub sum_within : squares z1 + 4 ^ d_of s * squares z2 ≤ bound_squared_of s
    sum_within = leb-true _ _ (done_test (Err SumAbove) Done refl _ (entries_next (largest_of s) (2 ^ d_of s) sum_test dimension z2 after_first))
