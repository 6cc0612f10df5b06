-- The rebuild and the comparison (01, "Rebuild", "Comparison" and "Numbers that come back").
use Rattle.std.specs.Prelude.{cond, ◌&&◌, List, ℕ, ℤ, pos, Err}
use Rattle.laws.specs.Lists.{every, same, zip_with, tabulate}
use Rattle.laws.specs.Refusals.{must}
use Rattle.sets.specs.declared.Set.{Set}
use Rattle.sets.specs.Numbers.{dimension, modulus, asked_of, default_one}
use Rattle.answers.specs.Outcomes.{Outcome, Done, unless, for_set, Filled, filled}
use Rattle.answers.specs.declared.Refusal.TheVariants.{UnknownSet, WrongLength, CoefficientOutside, ImproperList, ListsDiffer}
use Rattle.rounding.specs.Rounding.{restored}
use Rattle.vectors.specs.Places.{proper_list, listed}
use Rattle.limits.specs.LengthRule.{length_rule}
use Rattle.vectors.specs.Vectors.{sized}
use Rattle.keys.specs.Key.{is_residue}
use Rattle.commitment.specs.Commitment.{sums}

-- what the checker is sent: z1, z2 dagger and the list
pub record Claim : Type 0 where
  pub z1 : List ℤ
  pub z2 : List ℤ
  pub list : List ℕ

abbrev pub claim : List ℤ → List ℤ → List ℕ → Claim
claim z1 z2 list = record { z1 = z1; z2 = z2; list = list }

-- 12289 at each listed place
unfoldable pub marks : List ℕ → List ℤ
marks l = tabulate (λ k. cond (listed l k) (pos modulus) (pos 0)) dimension

-- the upper digits of (12288 t + 12289 at each listed place, modulo 24578), where t = a times z1 modulo q; plus z2 dagger, modulo p
unfoldable pub rebuilt : Set → List ℕ → Claim → List ℕ
rebuilt s a c = zip_with (restored s) (sums a c.z1 (marks c.list)) c.z2

-- the rebuild for a set: 2, 3, 5, 10, 11; `out` is what the output vector held before
abbrev pub rebuild_for : Set → List ℕ → Claim → List ℕ → Filled
rebuild_for s a c out =
    must (sized a && (sized c.z1 && (sized c.z2 && sized out))) (filled (Err WrongLength) out)
    (must (every is_residue a) (filled (Err CoefficientOutside) out)
    (must (proper_list s c.list) (filled (Err ImproperList) out)
    (unless (length_rule s c.z1 c.z2) (λ o. filled o out)
    (filled Done (rebuilt s a c)))))

-- the rebuild: 1, 2, 3, 5, 10, 11
unfoldable pub rebuild : ℕ → List ℕ → Claim → List ℕ → Filled
rebuild set a c out = for_set (asked_of set) (filled (Err UnknownSet) out) (λ s. rebuild_for s a c out)

-- the rebuild that keeps the old default (02, C-17): a number 0 becomes 1, and the call is made
abbrev pub rebuild_default_one : ℕ → List ℕ → Claim → List ℕ → Filled
rebuild_default_one set a c out = rebuild (default_one set) a c out

-- the comparison for a set: 5, 12
abbrev pub comparison_for : Set → List ℕ → List ℕ → Outcome
comparison_for s claimed hashed =
    must (proper_list s claimed && proper_list s hashed) (Err ImproperList)
    (must (same claimed hashed) (Err ListsDiffer)
    Done)

-- the comparison: 1, 5, 12
unfoldable pub comparison : ℕ → List ℕ → List ℕ → Outcome
comparison set claimed hashed = for_set (asked_of set) (Err UnknownSet) (λ s. comparison_for s claimed hashed)

-- the comparison that keeps the old default (02, C-17)
abbrev pub comparison_default_one : ℕ → List ℕ → List ℕ → Outcome
comparison_default_one set claimed hashed = comparison (default_one set) claimed hashed
