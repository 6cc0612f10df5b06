-- The code's own words for what a response is lent and what it answers, and what they stand for.
use Rattle.std.specs.Prelude.{◌≡◌, Bool, true, false, ◌&&◌, List, ℕ, eqb, ℤ, length, Option, Result, Ok, Err, MatchOption}
use Rattle.sets.specs.Numbers.{places}
use Rattle.vectors.specs.Vectors.{sized}
use Rattle.answers.specs.Outcomes.{Done}
use Rattle.answers.specs.declared.Refusal.TheVariants.{RelationBroken}
use Rattle.laws.specs.Refusals.{must}
use Rattle.sets.specs.declared.Set.{Set}
use Rattle.vectors.specs.Pairs.{Pair, pair}
use Rattle.keys.specs.Key.{relation}
use Rattle.choices.specs.Choices.{choices}
use Rattle.signing.specs.declared.Request.{Request}
use Rattle.signing.specs.declared.Measured.{Measured}
use Rattle.signing.specs.declared.Signing.{Signing}
use Rattle.signing.specs.declared.Refused.{Refused}
use Rattle.signing.specs.Response.{Lent, Drawing, drawing, Unnumbered, unnumbered, drawn, early}

-- with what the output vectors of z1 and z2 dagger held before
abbrev pub lent_by : Request → List ℤ → List ℤ → Lent
lent_by r z1 z2 =
    record {
      f = r.f.now;
      g = r.g.now;
      a = r.a.now;
      y1 = r.y1.now;
      y2 = r.y2.now;
      list = r.list.now;
      sign = r.sign;
      thresholds = r.thresholds.now;
      words = r.words.now;
      z1 = z1;
      z2 = z2;
    }

abbrev pub lent_measured : Measured → List ℤ → List ℤ → Lent
lent_measured m z1 z2 =
    record {
      f = m.f.now;
      g = m.g.now;
      a = m.a.now;
      y1 = m.y1.now;
      y2 = m.y2.now;
      list = m.list.now;
      sign = m.sign;
      thresholds = m.thresholds.now;
      words = m.words.now;
      z1 = z1;
      z2 = z2;
    }

-- every input vector has 512 entries, and there are 31 thresholds
abbrev pub inputs_sized : Request → Bool
inputs_sized r =
    (sized r.f.now && (sized r.g.now && (sized r.a.now && sized r.y1.now)))
    && (sized r.y2.now && eqb (length r.thresholds.now) places)

-- the same inputs, each of its length
pub record Alike (r : Request) (m : Measured) : Type 0 where
  pub sized : inputs_sized r ≡ true
  pub f : m.f.now ≡ r.f.now
  pub g : m.g.now ≡ r.g.now
  pub a : m.a.now ≡ r.a.now
  pub y1 : m.y1.now ≡ r.y1.now
  pub y2 : m.y2.now ≡ r.y2.now
  pub list : m.list.now ≡ r.list.now
  pub sign : m.sign ≡ r.sign
  pub thresholds : m.thresholds.now ≡ r.thresholds.now
  pub words : m.words.now ≡ r.words.now

abbrev pub Measures : Request → Option Measured → Type 0
Measures r o = MatchOption o (inputs_sized r ≡ false) (Alike r)

-- what the draw takes, with what the output vectors held before
abbrev pub drawing_by : Signing → List ℤ → List ℤ → Drawing
drawing_by d z1 z2 = record { a = d.a.key.now; y = pair d.y1.now d.y2.now; sign = d.sign; thresholds = d.thresholds.now; words = d.words.now; old = pair z1 z2 }

-- the words taken with a signature that is given out, or with a refusal
abbrev pub left_with : Result ℕ Refused → List ℤ → List ℤ → Unnumbered
left_with (Ok words) z1 z2 = unnumbered Done words z1 z2
left_with (Err r) z1 z2 = unnumbered (Err r.refusal) r.words z1 z2

-- what is left of the response once masks and list are in range and the key's counts are right: the key's relation, then the draw
abbrev pub signed_with : Set → Lent → Pair → Unnumbered
signed_with s c key =
    must (relation c.a key.first key.second) (early c (Err RelationBroken))
    (drawn s (drawing c) (choices key c.list))
