use mathlib.Core.Path.{◌≡◌, ap, ap₂, ◌∙◌}
use Prim.Native.Nat.{ℕ, ◌*◌, ◌+◌, ◌-◌, ◌/◌, ◌%◌, ◌≤◌}
use native.Mathlib.Omega.{arith}
use Rattle.polynomials.specs.Field.{mul}
use Rattle.sets.specs.Numbers.{modulus}
use Rattle.ring.proofs.Estimates.{estimated, seen, residue_left}
use Rattle.ring.proofs.factor.Factor.times.Goals as goal

-- what is left of w y where q times the estimate of the quotient, made of r and y, is taken off
left : (w r y r' y' : ℕ) → r ≡ w * 65536 / modulus → y ≤ 65535 → r' ≡ r → y' ≡ y
    → (w * y % 65536 + (65536 - r' * y' / 65536 * 12289 % 65536)) % 65536 ≡ w * y - r * y / 65536 * 12289
left w r y r' y' is h er ey =
    let near = estimated w r y is h in
    ap₂ (λ (m n : ℕ). (w * y % 65536 + (65536 - m * n / 65536 * 12289 % 65536)) % 65536) er ey ∙ seen (w * y) (r * y / 65536 * 12289) near.0 near.1

pub reduced-requires : goal.reduced-requires
reduced-requires c =
    let f = c.self.inside in
    let is = c.self.invariant.1 in
    let h : c.args.y ≤ 65535 = omega arith in
    omega (arith, left f.residue f.ratio c.args.y _ _ is h c.from.ensures c.from-2.ensures, (estimated f.residue f.ratio c.args.y is h).1)

pub returns : goal.returns
unfolding mul
returns c =
    let f = c.self.inside in
    let y = c.args.y in
    let is = c.self.invariant.1 in
    let h : y ≤ 65535 = omega arith in
    c.reduced.ensures
    ∙ ap (λ (n : ℕ). n % modulus) (left f.residue f.ratio y _ _ is h c.from.ensures c.from-2.ensures)
    ∙ residue_left (f.residue * y) (f.ratio * y / 65536) (estimated f.residue f.ratio y is h).0
    ∙ ap (λ (w : ℕ). mul w y) c.self.view_is
