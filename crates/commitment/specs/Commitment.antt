-- The commitment, and the commitment with rests (01, "Commitment" and "Numbers that come back"; 02, C-20).
use Rattle.std.specs.Prelude.{Bool, ◌&&◌, List, map, ℕ, ◌<◌, ℤ, get_or, Err}
use Rattle.laws.specs.Lists.{every, zip_with}
use Rattle.laws.specs.Refusals.{must}
use Rattle.sets.specs.declared.Set.{Set}
use Rattle.sets.specs.Numbers.{twice_modulus, mask_limit, asked_of}
use Rattle.answers.specs.Outcomes.{Outcome, Done, unless, for_set, Filled, filled}
use Rattle.answers.specs.declared.Refusal.TheVariants.{UnknownSet, WrongLength, CoefficientOutside, MaskOutside}
use Rattle.polynomials.specs.Product.{product}
use Rattle.rounding.specs.Rounding.{upper, rest, summed}
use Rattle.vectors.specs.Vectors.{sized, within}
use Rattle.keys.specs.Key.{is_residue}

-- a mask has coefficients -4,096 .. 4,096
abbrev pub is_mask : ℤ → Bool
is_mask = within mask_limit

unfoldable pub are_masks : List ℤ → List ℤ → Bool
are_masks y1 y2 = every is_mask y1 && every is_mask y2

-- u = 12288 t + y2 modulo 24578, where t = a times y1 modulo q
unfoldable pub sums : List ℕ → List ℤ → List ℤ → List ℕ
sums a y1 y2 = zip_with summed (product a y1) y2

-- the upper digits of u
unfoldable pub committed : Set → List ℕ → List ℤ → List ℤ → List ℕ
committed s a y1 y2 = map (upper s) (sums a y1 y2)

-- the rests of u
unfoldable pub rests_of : Set → List ℕ → List ℤ → List ℤ → List ℤ
rests_of s a y1 y2 = map (rest s) (sums a y1 y2)

-- each entry is below 24578
abbrev pub is_reduced : List ℕ → Type 0
is_reduced u = (k : ℕ) → get_or u k 0 < twice_modulus

-- ---- the refusals of both calls in their order: 2, 3, 4. `long` tells whether every vector of the call, read or written, has 512 entries
unfoldable pub tested : Bool → List ℕ → List ℤ → List ℤ → Outcome
tested long a y1 y2 =
    must long (Err WrongLength)
    (must (every is_residue a) (Err CoefficientOutside)
    (must (are_masks y1 y2) (Err MaskOutside)
    Done))

-- ---- the commitment

-- the commitment for a set; `out` is what the output vector held before
abbrev pub commitment_for : Set → List ℕ → List ℤ → List ℤ → List ℕ → Filled
commitment_for s a y1 y2 out =
    unless (tested (sized a && (sized y1 && (sized y2 && sized out))) a y1 y2) (λ o. filled o out)
    (filled Done (committed s a y1 y2))

-- the commitment: 1, 2, 3, 4
unfoldable pub commitment : ℕ → List ℕ → List ℤ → List ℤ → List ℕ → Filled
commitment set a y1 y2 out = for_set (asked_of set) (filled (Err UnknownSet) out) (λ s. commitment_for s a y1 y2 out)

-- ---- the commitment with rests

-- the contents of its two output vectors
pub record Outputs : Type 0 where
  pub digits : List ℕ
  pub rests : List ℤ

abbrev pub outputs : List ℕ → List ℤ → Outputs
outputs digits rests = record { digits = digits; rests = rests }

-- what it leaves behind: the outcome, and the contents of both
pub data WithRests : Type 0 where
  with_rests : Outcome → List ℕ → List ℤ → WithRests

-- an answer that leaves both as they were
abbrev pub keeping : Outputs → Outcome → WithRests
keeping old o = with_rests o old.digits old.rests

-- the commitment with rests for a set; `old` is what the output vectors held before
abbrev pub with_rests_for : Set → List ℕ → List ℤ → List ℤ → Outputs → WithRests
with_rests_for s a y1 y2 old =
    unless (tested (sized a && (sized y1 && (sized y2 && (sized old.digits && sized old.rests)))) a y1 y2) (keeping old)
    (with_rests Done (committed s a y1 y2) (rests_of s a y1 y2))

-- the commitment with rests: 1, 2, 3, 4
unfoldable pub commitment_with_rests : ℕ → List ℕ → List ℤ → List ℤ → Outputs → WithRests
commitment_with_rests set a y1 y2 old = for_set (asked_of set) (keeping old (Err UnknownSet)) (λ s. with_rests_for s a y1 y2 old)
