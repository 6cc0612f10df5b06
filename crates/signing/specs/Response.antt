-- The response (01, "Response", "The draw", "Length rule" and "Numbers that come back"; 02, C-12, C-13).
use Rattle.std.specs.Prelude.{Bool, ◌&&◌, List, ℕ, eqb, ℤ, length, Err}
use Rattle.laws.specs.Refusals.{must}
use Rattle.sets.specs.declared.Set.{Set}
use Rattle.sets.specs.Numbers.{places, asked_of}
use Rattle.answers.specs.Outcomes.{Outcome, Done, unless, key_with, for_set}
use Rattle.answers.specs.declared.Refusal.TheVariants.{UnknownSet, WrongLength, CoefficientOutside, MaskOutside, ImproperList, DrawRejected, WordMissing}
use Rattle.vectors.specs.Vectors.{sized}
use Rattle.vectors.specs.Pairs.{Pair, pair}
use Rattle.vectors.specs.Places.{proper_list}
use Rattle.limits.specs.LengthRule.{length_rule}
use Rattle.keys.specs.Key.{in_range, second, proper_key}
use Rattle.commitment.specs.Commitment.{are_masks, sums}
use Rattle.choices.specs.Choices.{choices}
use Rattle.draw.specs.Draw.{walk_of, after_walk}
use Rattle.masking.specs.Masking.{masked, first_trial, second_trial, daggers}

-- ---- what goes in, and what is left behind

-- What a signing call is lent: the key, the masks, the challenge list, the sign bit (no for 0, yes for 1), the thresholds and the words; z1 and z2 are what the
-- output vectors of z1 and z2 dagger held before.
pub record Lent : Type 0 where
  pub f : List ℤ
  pub g : List ℤ
  pub a : List ℕ
  pub y1 : List ℤ
  pub y2 : List ℤ
  pub list : List ℕ
  pub sign : Bool
  pub thresholds : List ℕ
  pub words : List ℕ
  pub z1 : List ℤ
  pub z2 : List ℤ

-- (s1, s2): s1 = f and s2 = 2g + 1
abbrev pub secret : Lent → Pair
secret c = pair c.f (second c.g)

-- What the draw takes of that, once v is there.
pub record Drawing : Type 0 where
  pub a : List ℕ
  pub y : Pair
  pub sign : Bool
  pub thresholds : List ℕ
  pub words : List ℕ
  pub old : Pair

abbrev pub drawing : Lent → Drawing
drawing c = record { a = c.a; y = pair c.y1 c.y2; sign = c.sign; thresholds = c.thresholds; words = c.words; old = pair c.z1 c.z2 }

-- what the response leaves behind: the outcome, the count of words taken, the key number, and the contents of the vectors z1 and z2 dagger
pub data Responded : Type 0 where
  responded : Outcome → ℕ → ℕ → List ℤ → List ℤ → Responded

-- the same without the key number, which no step of the response looks at
pub data Unnumbered : Type 0 where
  unnumbered : Outcome → ℕ → List ℤ → List ℤ → Unnumbered

-- an answer that gives out a pair of vectors, or leaves one as it was
abbrev pub leaving : Pair → ℕ → Outcome → Unnumbered
leaving x count o = unnumbered o count x.first x.second

-- ---- what is given out

-- z1 and z2 dagger, where u is made anew from a, y1 and y2
abbrev pub shortened : Set → Drawing → Pair → Pair
shortened s d z = pair z.first (daggers s (sums d.a d.y.first d.y.second) z.second)

-- ---- the refusals in their order: 1, 2, 3, 4, 5, 15, 7, 6, 8 or 9, 10, 11

-- 10, 11: the length rule of z1 and z2 dagger, which are given out where it passes
abbrev pub given : Set → Pair → ℕ → Pair → Unnumbered
given s old count z =
    unless (length_rule s z.first z.second) (leaving old count)
    (leaving z count Done)

-- 8 or 9 as the walk ends, then the above
unfoldable pub drawn : Set → Drawing → Pair → Unnumbered
drawn s d v =
    after_walk (walk_of (first_trial s v) (second_trial (masked d.sign d.y v) v) d.words d.thresholds)
    (λ count. given s d.old count (shortened s d (masked d.sign d.y v)))
    (λ count. leaving d.old count (Err DrawRejected))
    (leaving d.old (length d.words) (Err WordMissing))

-- every vector has 512 entries, and there are 31 thresholds
abbrev pub all_sized : Lent → Bool
all_sized c =
    (sized c.f && (sized c.g && (sized c.a && sized c.y1)))
    && ((sized c.y2 && (sized c.z1 && sized c.z2))
    && eqb (length c.thresholds) places)

-- a refusal before the draw has taken no word
abbrev pub early : Lent → Outcome → Unnumbered
early c = leaving (pair c.z1 c.z2) 0

-- 3, 4, 5, then 15, 7, 6 of the key, then the draw with v, the sign choices
abbrev pub tested : Set → Lent → Unnumbered
tested s c =
    must (in_range c.f c.g c.a) (early c (Err CoefficientOutside))
    (must (are_masks c.y1 c.y2) (early c (Err MaskOutside))
    (must (proper_list s c.list) (early c (Err ImproperList))
    (unless (proper_key s c.f c.g c.a) (early c)
    (drawn s (drawing c) (choices (secret c) c.list)))))

-- 2, then the above
unfoldable pub response_for : Set → Lent → Unnumbered
response_for s c = must (all_sized c) (early c (Err WrongLength)) (tested s c)

-- 1, then the above
unfoldable pub responding : ℕ → Lent → Unnumbered
responding set c = for_set (asked_of set) (early c (Err UnknownSet)) (λ s. response_for s c)

-- ---- the key number

-- "the response takes it from its caller": it goes with a signature that is given out, 0 with a refusal (02, C-13)
abbrev pub numbered : ℕ → Unnumbered → Responded
numbered key (unnumbered o count z1 z2) = responded o count (key_with o key) z1 z2

unfoldable pub response : ℕ → ℕ → Lent → Responded
response set key c = numbered key (responding set c)
