-- 02, C-24: how much the dropped digits cost, over whole numbers and for every set alike. Each statement is proved in proofs/Dropped.antt under its own name.
use Rattle.std.specs.Prelude.{◌≡◌, List, ℕ, ◌+◌, ◌*◌, ◌-◌, ◌^◌, ◌<◌, ◌≤◌, ℤ, pos, neg_ℤ, nat_abs, ◌+ℤ◌, ◌-ℤ◌, ◌*ℤ◌, length, get_or, Some}
use Rattle.laws.specs.Integers.{residue}
use Rattle.sets.specs.declared.Set.{Set}
use Rattle.sets.specs.Numbers.{dimension, modulus, twice_modulus, d_of, p_of, asked_of}
use Rattle.answers.specs.Outcomes.{Outcome, number_of}
use Rattle.rounding.specs.Rounding.{rest, dagger}
use Rattle.vectors.specs.Pairs.{pair}
use Rattle.choices.specs.Choices.{choices}
use Rattle.masking.specs.Masking.{masked}
use Rattle.signing.specs.Response.{Lent, secret, responded, response}

-- what the dropped digits cost at one place: 2^d times z2 dagger, less z2
abbrev pub cost : Set → ℤ → ℤ → ℤ
cost s z2† z2 = pos (2 ^ d_of s) *ℤ z2† -ℤ z2

-- the figure of the data sheet, 2^d + 1
abbrev pub figure_of : Set → ℕ
figure_of s = 2 ^ d_of s + 1

-- the largest absolute value of z2 for which it is stated in general, 12289 - 2^d - 3
abbrev pub z2_limit_of : Set → ℕ
z2_limit_of s = modulus - 2 ^ d_of s - 3

-- u - z2, reduced as the response reduces it
abbrev pub reduced : ℕ → ℤ → ℕ
reduced u z2 = residue twice_modulus (pos u -ℤ z2)

-- "in general for any u in 0 .. 24577 and any z2 of absolute value at most 12289 - 2^d - 3", "the wrap at 24,578 included"
abbrev pub DroppedDigits : Type 0
DroppedDigits =
    (s : Set) (u : ℕ) (z2 : ℤ)
    → u < twice_modulus
    → nat_abs z2 ≤ z2_limit_of s
    → nat_abs (cost s (dagger s u z2) z2) ≤ figure_of s

-- Where the figure comes from: the cost is the rest of u - z2 less that of u, and 2 more or less where u - z2 wraps, since p steps are 2q - 2.
abbrev pub CostInRests : Type 0
CostInRests =
    (s : Set) (u : ℕ) (z2 : ℤ)
    → u < twice_modulus
    → nat_abs z2 ≤ z2_limit_of s
    → (turns : ℤ) × (nat_abs turns ≤ 1)
    × (pos u -ℤ z2 ≡ pos (reduced u z2) +ℤ pos twice_modulus *ℤ turns)
    × (cost s (dagger s u z2) z2 ≡ (rest s (reduced u z2) -ℤ rest s u) +ℤ pos 2 *ℤ turns)

-- z2 of a response: y2 + v2 or y2 - v2, as the sign bit says
abbrev pub z2_of : Lent → List ℤ
z2_of c = (masked c.sign (pair c.y1 c.y2) (choices (secret c) c.list)).second

-- "For every response given out, at every place, 2^d times z2 dagger differs from z2 by at most 2^d + 1"
abbrev pub DroppedGivenOut : Type 0
DroppedGivenOut =
    (set key : ℕ) (c : Lent) (o : Outcome) (count back : ℕ) (z1 z2† : List ℤ)
    → response set key c ≡ responded o count back z1 z2†
    → number_of o ≡ 0
    → (s : Set) × (asked_of set ≡ Some s)
    × (length z2† ≡ dimension) × (length (z2_of c) ≡ dimension)
    × ((i : ℕ)
    → i < dimension
    → nat_abs (cost s (get_or z2† i (pos 0)) (get_or (z2_of c) i (pos 0))) ≤ figure_of s)

-- u and z2 are within the limits, and the dropped digits cost x
abbrev pub Costs : Set → ℕ → ℤ → ℤ → Type 0
Costs s u z2 x = (u < twice_modulus) × (nat_abs z2 ≤ z2_limit_of s) × (cost s (dagger s u z2) z2 ≡ x)

-- The figure cannot be lowered. It is reached upwards where u lies half a step below p steps and z2 is the figure turned over, and downwards where u is one less
-- than half a step and z2 is the figure: 24064, -1025 and 511, 1025 for d = 10; 24320, -513 and 255, 513 for d = 9; 24448, -257 and 127, 257 for d = 8. u - z2
-- wraps there, and the upper digits on both sides are 0.
abbrev pub FigureReached : Type 0
FigureReached =
    (s : Set)
    → Costs s (p_of s * 2 ^ d_of s - 2 ^ (d_of s - 1)) (neg_ℤ (pos (figure_of s))) (pos (figure_of s))
    × Costs s (2 ^ (d_of s - 1) - 1) (pos (figure_of s)) (neg_ℤ (pos (figure_of s)))
