use mathlib.Core.Path.{◌≡◌, ap, ap₂, ◌∙◌}
use mathlib.Core.Bool.{true}
use mathlib.Core.List.{List}
use Prim.Native.Nat.{ℕ, ◌+◌, ◌*◌, ◌-◌, ◌^◌, ◌<◌, ◌≤◌}
use lib.IntN.{ℤ}
use Rattle.sets.specs.declared.Set.{Set}
use Rattle.sets.specs.Numbers.{mask_limit, kappa_of, key_limit_of}
use Rattle.vectors.specs.Vectors.{squares, sizes}
use Rattle.vectors.specs.Pairs.{Pair, pair, squares_pair}
use Rattle.vectors.proofs.Lengths.{sizes_le_times}
use Rattle.commitment.specs.Commitment.{are_masks}
use Rattle.draw.specs.declared.Ending.{Ending}
use Rattle.draw.specs.Draw.{walk_of}
use Rattle.masking.specs.Masking.{masked, first_trial, second_trial}
use Rattle.masking.proofs.Numbers.{first_mask, second_mask, sum_fits, trial_sums}
use Rattle.signing.specs.Response.{Drawing}
use Rattle.signing.specs.Requests.{drawing_by}
use Rattle.signing.proofs.Given.{drawn_short, drawn_rejected, drawn_accepted, given_carried}
use Rattle.signing.proofs.draw_for.Goals as goal

fits : (s : Set) (y1 y2 v1 v2 : List ℤ) → are_masks y1 y2 ≡ true → squares v1 + squares v2 ≤ kappa_of s * key_limit_of s
    → sizes y1 v1 + sizes y2 v2 + (squares v1 + squares v2) < 2 ^ 30
fits s y1 y2 v1 v2 e h =
    trial_sums s (sizes y1 v1) (sizes y2 v2) (squares v1) (squares v2)
    (sizes_le_times mask_limit y1 v1 (first_mask y1 y2 e)) (sizes_le_times mask_limit y2 v2 (second_mask y1 y2 e)) h

walked : (s : Set) (d : Drawing) (v : Pair) (ending : Ending) (m n q : ℕ) → ending ≡ walk_of m n d.words d.thresholds
    → m ≡ kappa_of s * key_limit_of s - q → q ≡ squares_pair v → n ≡ second_trial (masked d.sign d.y v) v
    → ending ≡ walk_of (first_trial s v) (second_trial (masked d.sign d.y v) v) d.words d.thresholds
walked s d v ending m n q e f g h =
    e ∙ ap₂ (λ (m n : ℕ). walk_of m n d.words d.thresholds) (f ∙ ap (λ (q : ℕ). kappa_of s * key_limit_of s - q) g) h

pub second_trial-second-requires-clause-squared_value : goal.second_trial-second-requires-clause-squared_value
second_trial-second-requires-clause-squared_value c =
    let a = c.args in
    let h = fits a.s a.signing.y1.now a.signing.y2.now a.v1.now a.v2.now c.requires.masks_value.0 c.requires.masks_value.1 in
    (c.squared_length-squared.ensures, rw c.squared_length-squared.ensures h)

pub mask-requires-clause-by_index : goal.mask-requires-clause-by_index
mask-requires-clause-by_index c =
    let a = c.args in
    sum_fits a.s a.signing.y1.now a.v1.now (first_mask a.signing.y1.now a.signing.y2.now c.requires.masks_value.0) c.requires.by_index.0

pub mask-requires-2-clause-by_index : goal.mask-requires-2-clause-by_index
mask-requires-2-clause-by_index c =
    let a = c.args in
    sum_fits a.s a.signing.y2.now a.v2.now (second_mask a.signing.y1.now a.signing.y2.now c.requires.masks_value.0) c.requires.by_index.1

pub returns-in-OutOfWords : goal.returns-in-OutOfWords
returns-in-OutOfWords c =
    let a = c.args in
    let d = drawing_by a.signing a.z1.now a.z2.now in
    drawn_short a.s d (pair a.v1.now a.v2.now) _ (walked a.s d (pair a.v1.now a.v2.now) _ _ _ _ c.walk.ensures c.first_trial-first.ensures c.squared_length-squared.ensures c.second_trial-second.ensures)
    c.in-OutOfWords.is

pub returns-in-Rejected : goal.returns-in-Rejected
returns-in-Rejected c =
    let a = c.args in
    let d = drawing_by a.signing a.z1.now a.z2.now in
    drawn_rejected a.s d (pair a.v1.now a.v2.now) _ (walked a.s d (pair a.v1.now a.v2.now) _ _ _ _ c.walk.ensures c.first_trial-first.ensures c.squared_length-squared.ensures c.second_trial-second.ensures)
    _ c.in-Rejected.is

pub returns-in-Accepted : goal.returns-in-Accepted
unfolding masked
returns-in-Accepted c =
    let a = c.args in
    let d = drawing_by a.signing a.z1.now a.z2.now in
    drawn_accepted a.s d (pair a.v1.now a.v2.now) _ (walked a.s d (pair a.v1.now a.v2.now) _ _ _ _ c.walk.ensures c.first_trial-first.ensures c.squared_length-squared.ensures c.second_trial-second.ensures)
    _ _ c.in-Accepted.is
    (given_carried _ _ _ _ _ _ _ _ _ c.give.ensures c.mask.ensures c.mask-2.ensures)
