use mathlib.Core.Path.{◌≡◌, refl, ap, ◌∙◌}
use mathlib.Core.List.{List}
use Prim.Native.Nat.{ℕ}
use mathlib.Core.Bool.{true, ◌&&◌}
use lib.Dec.{eqb}
use lib.ListN.{length}
use Rattle.sets.specs.Numbers.{dimension, places}
use denote.Bor.{Bor}
use Rattle.std.specs.Prelude.{◌≢◌, Some, Result, Ok, Err, MatchResult}
use Rattle.std.specs.Array.{IsWholeChunk}
use Rattle.std.specs.Result.{result_ok}
use Rattle.signing.proofs.measure.Goals as goal

-- the array that a slice is has its entries
whole : {A E : Type 0} (x : List A) (n : ℕ) (r : Result (Bor (List A)) E) (y : Bor (List A)) → Some y ≡ result_ok r
    → MatchResult r (λ z. IsWholeChunk x z.now n) (λ e. length x ≢ n) → y.now ≡ x
whole {A = A} x n (Ok z) y e h = let same : y ≡ z = cc in ap (λ (b : Bor (List A)). b.now) same ∙ h.same
whole x n (Err z) y e h = cc

long : {A E : Type 0} (x : List A) (n : ℕ) (r : Result (Bor (List A)) E) (y : Bor (List A)) → Some y ≡ result_ok r
    → MatchResult r (λ z. IsWholeChunk x z.now n) (λ e. length x ≢ n) → length x ≡ n
long x n (Ok z) y e h = h.long
long x n (Err z) y e h = cc

all_long : (f g a y1 y2 t : ℕ) → f ≡ dimension → g ≡ dimension → a ≡ dimension → y1 ≡ dimension → y2 ≡ dimension → t ≡ places
    → (eqb f dimension && (eqb g dimension && (eqb a dimension && eqb y1 dimension))) && (eqb y2 dimension && eqb t places) ≡ true
all_long f g a y1 y2 t hf hg ha h1 h2 ht = rw (hf, hg, ha, h1, h2, ht)

pub returns : goal.returns
returns c =
    record {
      sized =
          all_long _ _ _ _ _ _ (long _ _ _ _ c.in_ok-ok.ensures.value c.try_into.ensures.1) (long _ _ _ _ c.in_ok-ok-2.ensures.value c.try_into-2.ensures.1)
          (long _ _ _ _ c.in_ok-ok-3.ensures.value c.try_into-3.ensures.1) (long _ _ _ _ c.in_ok-ok-4.ensures.value c.try_into-4.ensures.1)
          (long _ _ _ _ c.in_ok-ok-5.ensures.value c.try_into-5.ensures.1) (long _ _ _ _ c.in_ok-ok-6.ensures.value c.try_into-6.ensures.1);
      f = whole _ _ _ _ c.in_ok-ok.ensures.value c.try_into.ensures.1;
      g = whole _ _ _ _ c.in_ok-ok-2.ensures.value c.try_into-2.ensures.1;
      a = whole _ _ _ _ c.in_ok-ok-3.ensures.value c.try_into-3.ensures.1;
      y1 = whole _ _ _ _ c.in_ok-ok-4.ensures.value c.try_into-4.ensures.1;
      y2 = whole _ _ _ _ c.in_ok-ok-5.ensures.value c.try_into-5.ensures.1;
      list = refl;
      sign = refl;
      thresholds = whole _ _ _ _ c.in_ok-ok-6.ensures.value c.try_into-6.ensures.1;
      words = refl;
    }
