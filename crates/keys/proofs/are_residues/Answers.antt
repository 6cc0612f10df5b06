use mathlib.Core.Path.{◌≡◌, refl, sym, ap, ◌∙◌}
use mathlib.Core.List.{List, map}
use Prim.Native.Nat.{ℕ, ◌<◌, ◌≤◌}
use native.Mathlib.Omega.{arith}
use borrow.Author.Tests.{leb-true}
use lib.IntN.{ℤ, pos, nat_abs}
use lib.ListN.{length, get_or, length-map, get_or-map}
use mir.Syntax.{w16}
use mathlib.Core.Bool.{true}
use Rattle.laws.specs.Lists.{every}
use Rattle.laws.specs.Integers.{residue}
use Rattle.laws.proofs.Entries.{every_anywhere}
use Rattle.laws.proofs.Loops.{same_fails, same_passes, same_ends}
use Rattle.laws.proofs.Machine.{element}
use Rattle.sets.specs.Numbers.{dimension, modulus}
use Rattle.vectors.specs.Vectors.{within}
use Rattle.keys.proofs.are_residues.Goals.{then-x-residue, else-x-residue}
use Rattle.keys.proofs.are_residues.Goals as goal

abbrev residues : List ℤ → List ℕ
residues = map (residue modulus)

long : (t : List ℕ) (s : List ℤ) → length t ≡ dimension → length s ≡ dimension → length t ≡ length (residues s)
long t s e f = omega (arith, length-map s (residue modulus))

small : (s : List ℤ) → every (within 5) s ≡ true → (i : ℕ) → nat_abs (get_or s i (pos 0)) ≤ 5
small s e i = leb-true _ _ (every_anywhere (within 5) s i (pos 0) e refl)

pub residue-requires : goal.residue-requires
residue-requires c =
    rw (element w16 (get_or c.args.s.now c.loop-i.i (pos 0)) c.residue-arg-1.given).back (omega (arith, small c.args.s.now c.requires c.loop-i.i))

entry : (c : goal.Joined-x-residue) → c.residue.result ≡ get_or (residues c.args.s.now) c.loop-i.i 0
unfolding residue
entry c =
    c.residue.ensures
    ∙ ap (residue modulus) (element w16 (get_or c.args.s.now c.loop-i.i (pos 0)) c.residue-arg-1.given).back
    ∙ sym (get_or-map (residue modulus) c.args.s.now c.loop-i.i (pos 0))

pub loop-i-preserved : goal.loop-i-preserved
loop-i-preserved c =
    let t = c.args.t.now in
    let r = residues c.args.s.now in
    let e = long t c.args.s.now (omega arith) (omega arith) in
    let h : c.loop-i.i < length t = omega arith in (
      omega arith,
      elim c.if-x-residue.branch [
        | then-x-residue w ↦ same_fails t r e c.loop-i.i c.loop-i.all c.loop-i.invariant.1 h (λ e. w.if-x-residue.true (e ∙ sym (entry c))) w.all-is
        | else-x-residue w ↦ same_passes t r e c.loop-i.i c.loop-i.all c.loop-i.invariant.1 h (w.if-x-residue.false ∙ entry c) w.all-is
      ],
    )

pub returns : goal.returns
returns c =
    same_ends c.args.t.now (residues c.args.s.now) (long c.args.t.now c.args.s.now (omega arith) (omega arith)) c.loop-i.i c.loop-i.all c.loop-i.invariant.1 (omega arith)
