-- Upper digits, rests, centring, and the sums that are rounded (01, "Ring arithmetic", "Commitment", "Response", "Rebuild"; 02, C-20). d and p are those of a set.
use Rattle.std.specs.Prelude.{cond, ℕ, ◌+◌, ◌*◌, ◌-◌, ◌/◌, ◌%◌, ◌^◌, ltb, ℤ, pos, ◌+ℤ◌, ◌-ℤ◌}
use Rattle.laws.specs.Integers.{residue}
use Rattle.sets.specs.declared.Set.{Set}
use Rattle.sets.specs.Numbers.{twice_modulus, factor, d_of, p_of}
use Rattle.rounding.specs.declared.Rounded.{Rounded}

-- the rounded quotient, for x in 0 .. 24577: add 2^(d-1), divide by 2^d rounding down
unfoldable pub quotient : Set → ℕ → ℕ
quotient s x = (x + 2 ^ (d_of s - 1)) / 2 ^ d_of s

-- upper digits: the quotient's remainder by p
unfoldable pub upper : Set → ℕ → ℕ
upper s x = quotient s x % p_of s

-- the rest: x minus 2^d times the quotient, before the remainder by p
unfoldable pub rest : Set → ℕ → ℤ
rest s x = pos x -ℤ pos (2 ^ d_of s * quotient s x)

-- what rounding answers: both
abbrev pub rounded : Set → ℕ → Rounded
rounded s x = record { digits = upper s x; rest = rest s x }

-- the residue from which on p is taken off
abbrev pub half_of : Set → ℕ
half_of s = p_of s / 2

-- centred modulo p, in -p/2 .. p/2 - 1
unfoldable pub centred : Set → ℤ → ℤ
centred s z = cond (ltb (residue (p_of s) z) (half_of s)) (pos (residue (p_of s) z)) (pos (residue (p_of s) z) -ℤ pos (p_of s))

-- 12288 t + y modulo 24578
unfoldable pub summed : ℕ → ℤ → ℕ
summed t y = residue twice_modulus (pos (factor * t) +ℤ y)

-- z2 dagger at one place: the upper digits of u minus the upper digits of (u - z2 modulo 24578), centred modulo p
unfoldable pub dagger : Set → ℕ → ℤ → ℤ
dagger s u z = centred s (pos (upper s u) -ℤ pos (upper s (residue twice_modulus (pos u -ℤ z))))

-- what the rebuild answers at one place: the upper digits of w, plus z2 dagger, modulo p
unfoldable pub restored : Set → ℕ → ℤ → ℕ
restored s w z = residue (p_of s) (pos (upper s w) +ℤ z)
