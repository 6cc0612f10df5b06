-- The numbers of the sets: the table of 01, "Parameters", and the longer challenges of 02, C-22.
use Rattle.std.specs.Prelude.{◌≡◌, cond, List, [], ◌∷◌, ℕ, ◌≤◌, eqb, Option, Some, None}
use Rattle.sets.specs.declared.Set.{Set}
use Rattle.sets.specs.declared.Set.TheVariants.{I, II, III, IV, «V», VI, VII, VIII}
use Rattle.sets.specs.declared.Row.{Row}
use Rattle.sets.specs.declared.Row.TheVariants.{First, Second, Third, Fourth}

-- ---- alike for all sets

-- n: the coefficients of a polynomial
abbrev pub dimension : ℕ
dimension = 512

-- q
abbrev pub modulus : ℕ
modulus = 12289

-- 2q
abbrev pub twice_modulus : ℕ
twice_modulus = 24578

-- twice zeta modulo 2q, where zeta = 18433 inverts q - 2 modulo 2q
abbrev pub factor : ℕ
factor = 12288

-- the largest coefficient of a mask, either way
abbrev pub mask_limit : ℕ
mask_limit = 4096

-- the binary places that a trial visits, and the thresholds
abbrev pub places : ℕ
places = 31

-- the entries of a reader's list buffer: the largest kappa
abbrev pub list_limit : ℕ
list_limit = 113

-- ---- of each set

-- all sets
abbrev pub all : List Set
all = I ∷ II ∷ III ∷ IV ∷ «V» ∷ VI ∷ VII ∷ VIII ∷ []

-- kappa: the places of a challenge list (sets 5 to 8: 02, C-22)
abbrev pub kappa_of : Set → ℕ
kappa_of I = 23
kappa_of II = 23
kappa_of III = 30
kappa_of IV = 39
kappa_of «V» = 58
kappa_of VI = 58
kappa_of VII = 82
kappa_of VIII = 113

-- the row of 01's table that a set has its other numbers from: "otherwise the numbers of sets 1 to 4" (02, C-22)
abbrev pub like_of : Set → Row
like_of I = First
like_of II = Second
like_of III = Third
like_of IV = Fourth
like_of «V» = First
like_of VI = Second
like_of VII = Third
like_of VIII = Fourth

-- a column of the table: its number in each row
abbrev column : ℕ → ℕ → ℕ → ℕ → Row → ℕ
column one two three four First = one
column one two three four Second = two
column one two three four Third = three
column one two three four Fourth = four

-- d: the dropped binary digits
abbrev pub d_of : Set → ℕ
d_of s = column 10 10 9 8 (like_of s)

-- p: 2q divided by 2^d, rounded down
abbrev pub p_of : Set → ℕ
p_of s = column 24 24 48 96 (like_of s)

-- "largest"
abbrev pub largest_of : Set → ℕ
largest_of s = column 2100 1563 1760 1613 (like_of s)

-- B2
abbrev pub bound_of : Set → ℕ
bound_of s = column 12872 11074 10206 9901 (like_of s)

-- B2 squared
abbrev pub bound_squared_of : Set → ℕ
bound_squared_of s = column 165688384 122633476 104162436 98029801 (like_of s)

-- K: the largest squared length of a key
abbrev pub key_limit_of : Set → ℕ
key_limit_of s = column 775 775 1409 1784 (like_of s)

-- d1: how many coefficients of f are 1 or -1, and how many of g (02, C-12)
abbrev pub ones_of : Set → ℕ
ones_of s = column 154 154 216 231 (like_of s)

-- d2: how many are 2 or -2; the rest is zero
abbrev pub twos_of : Set → ℕ
twos_of s = column 0 0 16 31 (like_of s)

-- the largest coefficient that these counts leave to f and to g
abbrev pub coefficient_limit_of : Set → ℕ
coefficient_limit_of s = cond (eqb (twos_of s) 0) 1 2

-- the largest that a number of the sets is: no set has more, and one has as many
abbrev pub Largest : (Set → ℕ) → ℕ → Type 0
Largest number limit = ((s : Set) → number s ≤ limit) × ((s : Set) × (number s ≡ limit))

-- ---- numbers for sets

-- No.
abbrev pub set_number_of : Set → ℕ
set_number_of I = 1
set_number_of II = 2
set_number_of III = 3
set_number_of IV = 4
set_number_of «V» = 5
set_number_of VI = 6
set_number_of VII = 7
set_number_of VIII = 8

-- the largest number of a set: any above it is refused with 1
abbrev pub last_number : ℕ
last_number = 8

-- the set among some that has that number
unfoldable pub numbered : ℕ → List Set → Option Set
numbered x [] = None
numbered x (s ∷ rest) = cond (eqb x (set_number_of s)) (Some s) (numbered x rest)

-- the set of that number
unfoldable pub named_of : ℕ → Option Set
named_of x = numbered x all

-- the set that a number stands for on a call: 0 stands for set 4 (02, C-17)
unfoldable pub asked_of : ℕ → Option Set
asked_of x = cond (eqb x 0) (Some IV) (named_of x)

-- the number that a call which keeps the old default asks for: 0 becomes 1 (02, C-17)
unfoldable pub default_one : ℕ → ℕ
default_one x = cond (eqb x 0) 1 x
