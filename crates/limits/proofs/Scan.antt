-- A search for the first entry beyond the limit, and a range test that spares it. Assumes nothing.
use mathlib.Core.Path.{◌≡◌, refl}
use mathlib.Core.Bool.{Bool, true}
use mathlib.Core.List.{List, [], ◌∷◌}
use Prim.Native.Nat.{ℕ, zero, suc, ◌+◌, ◌*◌, ◌/◌, ◌<◌, ◌≤◌}
use native.Mathlib.Nat.{le_refl, le_trans, mul-le-mul, mul-div-le, not-suc-le-zero, le_of_suc-le-suc}
use native.Mathlib.Omega.{arith}
use borrow.Author.Tests.{le-leb, lt-leb, leb-true, ltb-true, ltb-false}
use lib.Dec.{ltb}
use lib.IntN.{ℤ, pos, nat_abs}
use lib.ListN.{length, get_or}
use Rattle.std.specs.Prelude.{Some, None, Err}
use Rattle.std.specs.List.{position, position_or_len}
use Rattle.std.proofs.lemmas.Grind.{common_steps}
use Rattle.std.proofs.lemmas.List.Quantifiers.{position-Some}
use Rattle.std.proofs.lemmas.List.Sums.{fails_before_first}
use Rattle.laws.specs.Lists.{every}
use Rattle.laws.proofs.Chain.{and_left, and_right}
use Rattle.answers.specs.declared.Refusal.TheVariants.{EntryBeyond}
use Rattle.answers.specs.Outcomes.{Done}
use Rattle.vectors.specs.Vectors.{within}
use Rattle.limits.specs.LengthRule.{entries}

-- every entry before place i is within the limit, and the one at i is beyond it
pub first_beyond_at : (limit factor start : ℕ) (x : List ℤ) (i : ℕ) → i < length x → limit < factor * nat_abs (get_or x i (pos 0))
    → ((k : ℕ) → k < i → factor * nat_abs (get_or x k (pos 0)) ≤ limit) → Err (EntryBeyond (start + i)) ≡ entries limit factor start x Done
unfolding entries
first_beyond_at limit factor start [] i h b w = absurd (not-suc-le-zero h)
first_beyond_at limit factor start (a ∷ x) zero h b w =
    let e : start + 0 ≡ start = omega arith in
    rw (e, lt-leb _ limit b) refl
first_beyond_at limit factor start (a ∷ x) (suc i) h b w =
    let e : start + suc i ≡ suc start + i = omega arith in
    rw (le-leb (factor * nat_abs a) limit (w 0 (omega arith)), e) (first_beyond_at limit factor (suc start) x i (le_of_suc-le-suc h) b (λ k g. w (suc k) (omega (arith, g))))

pub all_within_limit : (limit factor start : ℕ) (x : List ℤ) → ((k : ℕ) → k < length x → factor * nat_abs (get_or x k (pos 0)) ≤ limit)
    → Done ≡ entries limit factor start x Done
unfolding entries
all_within_limit limit factor start [] w = refl
all_within_limit limit factor start (a ∷ x) w =
    rw (le-leb (factor * nat_abs a) limit (w 0 (omega arith))) (all_within_limit limit factor (suc start) x (λ k g. w (suc k) (omega (arith, g))))

-- what a search for the first one answers
module _ (limit factor start : ℕ) (x : List ℤ) where
  abbrev is_beyond : ℤ → Bool
  is_beyond a = ltb limit (factor * nat_abs a)

  pub found_beyond : (i : ℕ) → position is_beyond x ≡ Some i → Err (EntryBeyond (start + i)) ≡ entries limit factor start x Done
  found_beyond i e =
      let at = position-Some is_beyond x i (pos 0) e in
      first_beyond_at limit factor start x i at.0 (ltb-true _ _ at.1) (λ k g. omega (arith, ltb-false _ _ (at.2 k g)))

  pub none_found : position is_beyond x ≡ None → Done ≡ entries limit factor start x Done
  none_found e =
      let past : length x ≤ position_or_len is_beyond x = grind (arith, common_steps) in
      all_within_limit limit factor start x (λ k g. omega (arith, ltb-false _ _ (fails_before_first is_beyond x k (pos 0) (omega (arith, g, past)))))

-- |x| is at most the limit divided by the factor, rounded down: then the factor times |x| is at most the limit
pub none_beyond : (limit factor start : ℕ) (x : List ℤ) → every (within (limit / factor)) x ≡ true → Done ≡ entries limit factor start x Done
unfolding every entries
none_beyond limit factor start [] e = refl
none_beyond limit factor start (a ∷ x) e =
    let first = leb-true (nat_abs a) (limit / factor) (and_left (within (limit / factor) a) (every (within (limit / factor)) x) e) in
    let h : factor * nat_abs a ≤ limit = le_trans (mul-le-mul (le_refl factor) first) (mul-div-le limit factor) in
    rw (le-leb (factor * nat_abs a) limit h) (none_beyond limit factor (suc start) x (and_right (within (limit / factor) a) (every (within (limit / factor)) x) e))
