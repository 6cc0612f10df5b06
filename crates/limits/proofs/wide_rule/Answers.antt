use mathlib.Core.Path.{◌≡◌, sym, ◌∙◌, ap, ap₂}
use mathlib.Core.List.{List}
use Prim.Native.Nat.{ℕ, ◌+◌, ◌*◌, ◌^◌}
use native.Mathlib.Omega.{arith}
use borrow.Author.Tests.{le-leb, lt-leb}
use lib.Dec.{leb}
use lib.IntN.{ℤ}
use lib.Pow.{pow_pos}
use Rattle.laws.specs.Refusals.{must}
use Rattle.sets.specs.declared.Set.{Set}
use Rattle.sets.specs.Numbers.{dimension, d_of, largest_of, bound_squared_of}
use Rattle.sets.proofs.Alike.{largest_small}
use Rattle.answers.specs.Outcomes.{Outcome, Done, is_done}
use Rattle.std.specs.Prelude.{Err}
use Rattle.answers.specs.declared.Refusal.TheVariants.{SumAbove}
use Rattle.answers.specs.declared.Refusal.{Refusal}
use Rattle.answers.proofs.Calls.{handed_on, refused, admitted}
use Rattle.vectors.specs.Vectors.{squares}
use Rattle.limits.specs.LengthRule.{entries, length_rule}
use Rattle.limits.proofs.Rule.{rule_chain, squares_small}
use Rattle.limits.proofs.wide_rule.Goals.{After-test_entries, After-test_entries-2}
use Rattle.limits.proofs.wide_rule.Goals as goal

-- z1's search, and what follows it
module _ (s : Set) (z1 z2 : List ℤ) where
  abbrev first : Outcome
  first = entries (largest_of s) 1 0 z1 Done

  abbrev second : Outcome
  second = entries (largest_of s) (2 ^ d_of s) dimension z2 Done

  first_is : (o : Outcome) (most : ℕ) → o ≡ entries most 1 0 z1 Done → most ≡ largest_of s → o ≡ first
  first_is o most e l = e ∙ ap (λ (n : ℕ). entries n 1 0 z1 Done) l

  second_is : (o : Outcome) (most step : ℕ) → o ≡ entries most step dimension z2 Done → most ≡ largest_of s → step ≡ 2 ^ d_of s → o ≡ second
  second_is o most step e l d = e ∙ ap₂ (λ (n f : ℕ). entries n f dimension z2 Done) l d

  module _ (o : Outcome) (e : o ≡ first) where
    first_stops : (k : Refusal) (r : Outcome) → o ≡ Err k → r ≡ Err k → r ≡ length_rule s z1 z2
    first_stops k r t u = refused o first k (λ o. o) r _ e t u ∙ sym (rule_chain s z1 z2)

    module _ (t : o ≡ Done) (p : Outcome) (g : p ≡ second) where
      second_stops : (k : Refusal) (r : Outcome) → p ≡ Err k → r ≡ Err k → r ≡ length_rule s z1 z2
      second_stops k r u v = admitted o first (λ o. o) r _ e t (refused p second k (λ o. o) r _ g u v) ∙ sym (rule_chain s z1 z2)

      rule_sums : p ≡ Done → (x : Outcome) → x ≡ must (leb (squares z1 + 4 ^ d_of s * squares z2) (bound_squared_of s)) (Err SumAbove) Done
          → x ≡ length_rule s z1 z2
      rule_sums u x k = admitted o first (λ o. o) x _ e t (admitted p second (λ o. o) x _ g u k) ∙ sym (rule_chain s z1 z2)

module _ (c : After-test_entries) where
  first_searched : c.test_entries.result ≡ first c.args.s c.args.z1.now c.args.z2.now
  first_searched = first_is c.args.s c.args.z1.now c.args.z2.now _ _ c.test_entries.ensures c.largest.ensures

module _ (c : After-test_entries-2) where
  second_searched : c.test_entries-2.result ≡ second c.args.s c.args.z1.now c.args.z2.now
  second_searched = second_is c.args.s c.args.z1.now c.args.z2.now _ _ _ c.test_entries-2.ensures c.largest-2.ensures c.step.ensures

pub returns-in_err-test_entries : goal.returns-in_err-test_entries
returns-in_err-test_entries c =
    let p = c.args in
    let r = c.from_residual in
    first_stops p.s p.z1.now p.z2.now _ (first_searched (goal.at.returns-in_err-test_entries c).After-test_entries) _ r.result c.in_err-test_entries.was (handed_on r.result _ r.ensures.1)

pub returns-in_err-test_entries-2 : goal.returns-in_err-test_entries-2
returns-in_err-test_entries-2 c =
    let p = c.args in
    let at = goal.at.returns-in_err-test_entries-2 c in
    let r = c.from_residual-in_err-test_entries-2 in
    second_stops p.s p.z1.now p.z2.now _ (first_searched at.After-test_entries) c.in_ok-test_entries.was _ (second_searched at.After-test_entries-2) _ r.result
    c.in_err-test_entries-2.was (handed_on r.result _ r.ensures.1)

pub weighted_sum-requires : goal.weighted_sum-requires
weighted_sum-requires c =
    let s = c.args.s in
    let at = goal.at.weighted_sum-requires c in
    let small = largest_small s in (
      squares_small (largest_of s) 1 0 c.args.z1.now small (omega arith) (omega arith)
          (ap is_done (sym (first_searched at.After-test_entries) ∙ c.in_ok-test_entries.was)),
      squares_small (largest_of s) (2 ^ d_of s) dimension c.args.z2.now small (pow_pos (d_of s)) (omega arith)
          (ap is_done (sym (second_searched at.After-test_entries-2) ∙ c.in_ok-test_entries-2.was)),
    )

pub returns-then-bound_squared-weighted_sum : goal.returns-then-bound_squared-weighted_sum
returns-then-bound_squared-weighted_sum c =
    let s = c.args.s in
    let z1 = c.args.z1.now in
    let z2 = c.args.z2.now in
    let at = goal.at.returns-then-bound_squared-weighted_sum c in
    let h = lt-leb (squares z1 + 4 ^ d_of s * squares z2) (bound_squared_of s) (omega (arith, c.weighted_sum.ensures, c.bound_squared.ensures)) in
    rule_sums s z1 z2 _ (first_searched at.After-test_entries) c.in_ok-test_entries.was _ (second_searched at.After-test_entries-2) c.in_ok-test_entries-2.was _ (rw h)

pub returns : goal.returns
returns c =
    let s = c.args.s in
    let z1 = c.args.z1.now in
    let z2 = c.args.z2.now in
    let at = goal.at.returns c in
    let h = le-leb (squares z1 + 4 ^ d_of s * squares z2) (bound_squared_of s) (omega (arith, c.weighted_sum.ensures, c.bound_squared.ensures)) in
    rule_sums s z1 z2 _ (first_searched at.After-test_entries) c.in_ok-test_entries.was _ (second_searched at.After-test_entries-2) c.in_ok-test_entries-2.was _ (rw h)
