-- What upper digits, rests and centring are, without their formulas (01, "Ring arithmetic"; 02, C-20); proofs/Laws.antt has a theorem of each statement's name.
use Rattle.std.specs.Prelude.{◌≡◌, ℕ, ◌+◌, ◌*◌, ◌-◌, ◌/◌, ◌%◌, ◌^◌, ◌<◌, ◌≤◌, ℤ, pos, neg_ℤ, ◌+ℤ◌, ◌*ℤ◌, ◌≤ℤ◌, ◌<ℤ◌}
use Rattle.sets.specs.declared.Set.{Set}
use Rattle.sets.specs.Numbers.{d_of, p_of}
use Rattle.rounding.specs.Rounding.{quotient, upper, rest, centred}

-- ---- upper digits

-- the step nearest to x is the n-th, 2^d n, and of two that are as near the upper one: 2^d n - 2^(d-1) <= x < 2^d n + 2^(d-1)
abbrev pub nearest : Set → ℕ → ℕ → Type 0
nearest s x n = (2 ^ d_of s * n ≤ x + 2 ^ (d_of s - 1)) × (x < 2 ^ d_of s * n + 2 ^ (d_of s - 1))

-- the quotient of x is such an n
abbrev pub QuotientNearest : Type 0
QuotientNearest = (s : Set) (x : ℕ) → nearest s x (quotient s x)

-- there is no other
abbrev pub QuotientAlone : Type 0
QuotientAlone = (s : Set) (x n : ℕ) → nearest s x n → quotient s x ≡ n

-- its remainder by p is the upper digits of x
abbrev pub UpperIsNearest : Type 0
UpperIsNearest = (s : Set) (x n : ℕ) → nearest s x n → upper s x ≡ n % p_of s

abbrev pub UpperBelow : Type 0
UpperBelow = (s : Set) (x : ℕ) → upper s x < p_of s

-- ---- rests

-- r lies in -2^(d-1) .. 2^(d-1) - 1
abbrev pub is_rest : Set → ℤ → Type 0
is_rest s r = (neg_ℤ (pos (2 ^ (d_of s - 1))) ≤ℤ r) × (r <ℤ pos (2 ^ (d_of s - 1)))

abbrev pub RestRange : Type 0
RestRange = (s : Set) (x : ℕ) → is_rest s (rest s x)

-- x is 2^d times its quotient, and its rest
abbrev pub RestCompletes : Type 0
RestCompletes = (s : Set) (x : ℕ) → pos x ≡ pos (2 ^ d_of s * quotient s x) +ℤ rest s x

-- there are no other such two numbers
abbrev pub RestAlone : Type 0
RestAlone = (s : Set) (x n : ℕ) (r : ℤ) → is_rest s r → pos x ≡ pos (2 ^ d_of s * n) +ℤ r → (quotient s x ≡ n) × (rest s x ≡ r)

-- ---- centring

-- c lies in -p/2 .. p/2 - 1
abbrev pub is_centred : Set → ℤ → Type 0
is_centred s c = (neg_ℤ (pos (p_of s / 2)) ≤ℤ c) × (c <ℤ pos (p_of s / 2))

-- x and y differ by a multiple of p
abbrev pub congruent : Set → ℤ → ℤ → Type 0
congruent s x y = (times : ℤ) × (x ≡ y +ℤ pos (p_of s) *ℤ times)

abbrev pub CentredRange : Type 0
CentredRange = (s : Set) (z : ℤ) → is_centred s (centred s z)

abbrev pub CentredCongruent : Type 0
CentredCongruent = (s : Set) (z : ℤ) → congruent s z (centred s z)

-- there is no other such number
abbrev pub CentredAlone : Type 0
CentredAlone = (s : Set) (z c : ℤ) → is_centred s c → congruent s z c → centred s z ≡ c

-- p/2 goes to -p/2
abbrev pub HalfCentred : Type 0
HalfCentred = (s : Set) → centred s (pos (p_of s / 2)) ≡ neg_ℤ (pos (p_of s / 2))
