-- A chain of tests in the code, `if !test(..) { return refusal; }`, against the chain of `must` in a definition: `search calls` closes each return.
-- Assumes nothing.
use mathlib.Core.Path.{◌≡◌, refl, sym, ◌∙◌}
use mathlib.Core.Bool.{Bool, true, false, not, ◌&&◌}
use Prim.Native.Nat.{ℕ}
use native.Mathlib.Omega.{arith}
use borrow.Author.Rules.{rules}
use borrow.Author.Tests.{not-true, not-false, eq-eqb, ne_eqb}
use lib.Dec.{eqb}
use Rattle.laws.specs.Refusals.{must}

-- the test answered r, which its contract says is s
module _ {ℓ} {A : Type ℓ} where
  pub stop : (r s : Bool) (x refusal next : A) → r ≡ s → not r ≡ true → x ≡ refusal → x ≡ must s refusal next
  stop r s x refusal next e t k = rw (sym e ∙ not-true r t) k

  pub pass : (r s : Bool) (x refusal next : A) → r ≡ s → not r ≡ false → x ≡ next → x ≡ must s refusal next
  pass r s x refusal next e t k = rw (sym e ∙ not-false r t) k

  -- a chain that comes to an answer which is not the test's refusal passed the test, and went on to it
  pub through : (test : Bool) (refusal next x : A) → (test ≡ false → refusal ≡ x → ⊥) → must test refusal next ≡ x → (test ≡ true) × (next ≡ x)
  through true refusal next x other e = (refl, e)
  through false refusal next x other e = absurd (other refl e)

-- a statement about what a chain answers, from both ways of its first test
pub must_cases {ℓ} : {A : Type ℓ} (P : A → Type 0) (test : Bool) (refusal next : A) → (test ≡ true → P next) → (test ≡ false → P refusal) → P (must test refusal next)
must_cases P true refusal next p q = p refl
must_cases P false refusal next p q = q refl

pub failed : {r s : Bool} → r ≡ s → not r ≡ true → s ≡ false
failed {r} e t = sym e ∙ not-true r t

pub passed : {r s : Bool} → r ≡ s → not r ≡ false → s ≡ true
passed {r} e t = sym e ∙ not-false r t

pub differ : false ≡ true → ⊥
differ e = let z : ◌≡◌ {A = ℕ} 0 1 = cc in omega arith

pub and_left : (p q : Bool) → p && q ≡ true → p ≡ true
and_left true q e = refl
and_left false q e = e

pub and_right : (p q : Bool) → p && q ≡ true → q ≡ true
and_right true q e = e
and_right false true e = refl
and_right false false e = e

-- a chain of tests that answers whether all hold
pub all_stop : (r s t : Bool) → r ≡ s → not r ≡ true → false ≡ s && t
all_stop r s t e h = rw (failed {r = r} {s = s} e h)

pub all_pass : (r s t x : Bool) → r ≡ s → not r ≡ false → x ≡ t → x ≡ s && t
all_pass r s t x e h k = rw (passed {r = r} {s = s} e h) k

-- the same with numbers that must be equal
pub unequal_stop : (m n : ℕ) (t : Bool) → (m ≡ n → ⊥) → false ≡ eqb m n && t
unequal_stop m n t h = rw (ne_eqb m n h)

pub equal_pass : (m n : ℕ) (t x : Bool) → m ≡ n → x ≡ t → x ≡ eqb m n && t
equal_pass m n t x h k = rw (eq-eqb m n h) k

pub ruleset calls = (rules, stop, pass, all_stop, all_pass, unequal_stop, equal_pass)
