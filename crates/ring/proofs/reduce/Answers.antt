use mathlib.Core.Path.{ap, sym}
use Prim.Native.Nat.{ℕ, ◌%◌}
use native.Mathlib.Omega.{arith}
use lib.ListN.{take}
use lib.Seq.{length-take-le, get_or-take}
use Rattle.sets.specs.Numbers.{modulus}
use Rattle.ring.proofs.Maps.{mapped}
use Rattle.ring.proofs.reduce.Goals as goal

pub loop-i-preserved : goal.loop-i-preserved
loop-i-preserved c =
    let l = c.args.c.now in
    mapped (λ (x : ℕ). x % modulus) 0 (take 8 l) c.args.s.now c.loop-i.invariant (omega (arith, length-take-le 8 l c.requires.1)) (omega arith) _
    (ap (λ (x : ℕ). x % modulus) (sym (get_or-take 8 l c.loop-i.i 0 (omega arith))))
