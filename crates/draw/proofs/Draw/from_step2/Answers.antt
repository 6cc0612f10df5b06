use mathlib.Core.Path.{◌≡◌}
use Prim.Native.Nat.{◌%◌}
use native.Mathlib.Omega.{arith}
use lib.ListN.{get_or}
use Rattle.draw.proofs.Steps.{odd, resumes, resumes_within, resumes_less}
use Rattle.draw.proofs.Draw.from_step2.Goals as goal

pub loop-taken-preserved-then-word-eq1 : goal.loop-taken-preserved-then-word-eq1
loop-taken-preserved-then-word-eq1 c =
    let so = c.loop-taken.invariant in
    let word = c.in-Some.ensures.lookup.3 in
    (omega (arith, word.0), odd _ _ _ _ _ so.1 so.0 _ c.attempt.ensures _ c.in-Failure.is word.0 (omega (arith, word.1 0, c.if-word-eq1.true)))

pub loop-taken-smaller : goal.loop-taken-smaller
loop-taken-smaller c =
    let so = c.loop-taken.invariant in
    let word = c.in-Some.ensures.lookup.3 in
    resumes_less _ _ _ _ _ so.1 so.0 _ c.attempt.ensures _ c.in-Failure.is word.0 (λ e. c.if-word-eq1.false (omega (arith, word.1 0, e)))
    _ c.attempt-in-loop-taken.ensures _ c.in-Success-attempt.is

pub loop-taken-preserved : goal.loop-taken-preserved
loop-taken-preserved c =
    let so = c.loop-taken.invariant in
    let word = c.in-Some.ensures.lookup.3 in
    let even : get_or c.args.self.words.now c.in-Failure.next 0 % 2 ≡ 1 → ⊥ = λ e. c.if-word-eq1.false (omega (arith, word.1 0, e)) in (
      resumes_within _ _ _ _ _ so.1 so.0 _ c.attempt.ensures _ c.in-Failure.is word.0 even _ c.attempt-in-loop-taken.ensures _ c.in-Success-attempt.is,
      resumes _ _ _ _ _ so.1 so.0 _ c.attempt.ensures _ c.in-Failure.is word.0 even _ c.attempt-in-loop-taken.ensures _ c.in-Success-attempt.is,
    )
