-- The ways out of the response once the walk has ended. Assumes nothing.
use mathlib.Core.Path.{◌≡◌, refl, sym, ap₂, ◌∙◌}
use mathlib.Core.Bool.{true, false}
use mathlib.Core.List.{List}
use Prim.Native.Nat.{ℕ}
use lib.IntN.{ℤ}
use lib.ListN.{length}
use Rattle.sets.specs.declared.Set.{Set}
use Rattle.answers.specs.Outcomes.{Outcome, Done}
use Rattle.laws.proofs.Chain.{differ}
use Rattle.std.specs.Prelude.{is_ok, Ok, Err}
use Rattle.answers.specs.declared.Refusal.TheVariants.{DrawRejected, WordMissing}
use Rattle.answers.proofs.Calls.{refused, admitted}
use Rattle.limits.specs.LengthRule.{length_rule}
use Rattle.vectors.specs.Pairs.{Pair, pair}
use Rattle.draw.specs.declared.Ending.{Ending}
use Rattle.draw.specs.declared.Ending.TheVariants.{Accepted, Rejected, OutOfWords}
use Rattle.draw.specs.Draw.{walk_of}
use Rattle.masking.specs.Masking.{masked, first_trial, second_trial, daggers}
use Rattle.signing.specs.Response.{Drawing, Unnumbered, unnumbered, leaving, shortened, given, drawn}

module _ (s : Set) (old : Pair) (count : ℕ) (z : Pair) (o : Outcome) (e : o ≡ length_rule s z.first z.second) where
  pub given_refused : is_ok o ≡ false → leaving old count o ≡ given s old count z
  given_refused = by_outcome o e
    where
      by_outcome : (o : Outcome) → o ≡ length_rule s z.first z.second → is_ok o ≡ false → leaving old count o ≡ given s old count z
      by_outcome (Ok done) e t = absurd (differ (sym t))
      by_outcome (Err refusal) e t = refused (Err refusal) _ refusal (leaving old count) _ _ e refl refl

  pub given_out : is_ok o ≡ true → (x1 x2 : List ℤ) → x1 ≡ z.first → x2 ≡ z.second → unnumbered o count x1 x2 ≡ given s old count z
  given_out = by_outcome o e
    where
      by_outcome : (o : Outcome) → o ≡ length_rule s z.first z.second → is_ok o ≡ true → (x1 x2 : List ℤ) → x1 ≡ z.first → x2 ≡ z.second
          → unnumbered o count x1 x2 ≡ given s old count z
      by_outcome (Ok done) e t x1 x2 g h = admitted Done _ (leaving old count) _ _ e refl (ap₂ (unnumbered Done count) g h)
      by_outcome (Err refusal) e t x1 x2 g h = absurd (differ t)

module _ (s : Set) (d : Drawing) (v : Pair) (ending : Ending)
    (e : ending ≡ walk_of (first_trial s v) (second_trial (masked d.sign d.y v) v) d.words d.thresholds) where
  pub drawn_short : ending ≡ OutOfWords → leaving d.old (length d.words) (Err WordMissing) ≡ drawn s d v
  unfolding drawn
  drawn_short f = rw (sym e ∙ f)

  pub drawn_rejected : (count : ℕ) → ending ≡ Rejected count → leaving d.old count (Err DrawRejected) ≡ drawn s d v
  unfolding drawn
  drawn_rejected count f = rw (sym e ∙ f)

  pub drawn_accepted : (count : ℕ) (x : Unnumbered) → ending ≡ Accepted count → x ≡ given s d.old count (shortened s d (masked d.sign d.y v)) → x ≡ drawn s d v
  unfolding drawn
  drawn_accepted count x f h = rw (sym e ∙ f) h

pub given_carried : (s : Set) (old : Pair) (count : ℕ) (u : List ℕ) (p q z1 z2 : List ℤ) (x : Unnumbered) → x ≡ given s old count (pair p (daggers s u q)) → p ≡ z1 → q ≡ z2
    → x ≡ given s old count (pair z1 (daggers s u z2))
given_carried s old count u p q z1 z2 x h e f = rw (← e, ← f) h
