-- Signed machine numbers: a local of width w holds bits n and reads as z. Each operation has what it asks (`-ok`) and what it leaves (`-is`), once for
-- every width. Assumes nothing.
use mathlib.Core.Path.{◌≡◌, refl, ◌∙◌, ap}
use mathlib.Core.Bool.{Bool, true, false}
use Prim.Native.Nat.{ℕ, suc, ◌+◌, ◌*◌, ◌-◌, ◌^◌, ◌<◌, ◌≤◌}
use native.Mathlib.Omega.{arith}
use lib.Dec.{T, leb}
use lib.IntN.{ℤ, pos, negsuc, neg_ℤ, nat_abs, ◌+ℤ◌, ◌-ℤ◌, ◌*ℤ◌, +ℤ_idl}
use lib.Signed.{mag, non_neg, lt_z, le_z, pos-nat_abs}
use mir.Syntax.{Width}
use mir.Val.{SFits, Fits, bits, hbits, to_z, of_z}
use mir.Facts.{to_z-of_z, sfits_widen}
use mir.ValLaws.{to_z_pos, to_z-neg, half_full}
use Rattle.laws.proofs.Bounds.{abs_neg, abs_add, abs_sub, abs_mul, mag_abs, abs_mag}
use Rattle.laws.proofs.Linear.{above, under, size, size_le, sum, difference, nonneg, above_mag, lt_yes, lt_no}

pub record Reads (w : Width) (n : ℕ) (z : ℤ) : Type 0 where
  pub back : to_z w n ≡ z

-- z fits where |z| is below half the width's power; the least number fits besides
pub fits : {w : Width} {z : ℤ} → nat_abs z < 2 ^ hbits w → SFits w z
fits {w} {z} h = record { sfits = omega (arith, mag_abs z) }

-- ---- where a value comes from

-- a parameter or a result: a number that fits, written as bits
pub given : {w : Width} {z : ℤ} → SFits w z → Reads w (of_z w z) z
given f = record { back = to_z-of_z f }

-- an element that was read, of which the rule tells the size
pub element : (w : Width) (z : ℤ) → mag z < 2 ^ hbits w → Reads w (of_z w z) z
element w z h = given (record { sfits = h })

-- a local that a loop changes, of which the invariant speaks by `to_z`
pub held : (w : Width) (n : ℕ) → Reads w n (to_z w n)
held w n = record { back = refl }

-- an unsigned number of at most half the width's power, cast to a signed type
pub positive : (w : Width) (n : ℕ) → n < 2 ^ hbits w → Reads w n (pos n)
positive w n h = record { back = to_z_pos w n h }

-- ---- operations
module _ {w : Width} {n m : ℕ} {x y : ℤ} (p : Reads w n x) (q : Reads w m y) (o : ℤ → ℤ → ℤ) (h : SFits w (o x y)) where
  pub operation_ok : SFits w (o (to_z w n) (to_z w m))
  operation_ok = rw (p.back, q.back) h

  pub operation_is : Reads w (of_z w (o (to_z w n) (to_z w m))) (o x y)
  operation_is = record { back = to_z-of_z operation_ok ∙ rw (p.back, q.back) }

module _ {w : Width} {n m : ℕ} {x y : ℤ} (p : Reads w n x) (q : Reads w m y) where
  module _ (h : nat_abs x + nat_abs y < 2 ^ hbits w) where
    pub add_ok : SFits w (to_z w n +ℤ to_z w m)
    add_ok = operation_ok p q ◌+ℤ◌ (fits (omega (arith, abs_add x y)))

    pub add_is : Reads w (of_z w (to_z w n +ℤ to_z w m)) (x +ℤ y)
    add_is = operation_is p q ◌+ℤ◌ (fits (omega (arith, abs_add x y)))

    pub sub_ok : SFits w (to_z w n -ℤ to_z w m)
    sub_ok = operation_ok p q ◌-ℤ◌ (fits (omega (arith, abs_sub x y)))

    pub sub_is : Reads w (of_z w (to_z w n -ℤ to_z w m)) (x -ℤ y)
    sub_is = operation_is p q ◌-ℤ◌ (fits (omega (arith, abs_sub x y)))

  module _ (h : nat_abs x * nat_abs y < 2 ^ hbits w) where
    pub mul_ok : SFits w (to_z w n *ℤ to_z w m)
    mul_ok = operation_ok p q ◌*ℤ◌ (fits (omega (arith, abs_mul x y)))

    pub mul_is : Reads w (of_z w (to_z w n *ℤ to_z w m)) (x *ℤ y)
    mul_is = operation_is p q ◌*ℤ◌ (fits (omega (arith, abs_mul x y)))

-- ---- casts
module _ {w : Width} {n : ℕ} {x : ℤ} (p : Reads w n x) (w' : Width) where
  -- to a signed type that holds the number
  module _ (h : SFits w' x) where
    pub cast_ok : SFits w' (to_z w n)
    cast_ok = rw p.back h

    pub cast_is : Reads w' (of_z w' (to_z w n)) x
    cast_is = record { back = to_z-of_z cast_ok ∙ p.back }

  -- to an unsigned type: the number is not negative, and its size fits
  pub unsigned_ok : T (non_neg x) → nat_abs x < 2 ^ bits w' → T (non_neg (to_z w n)) × Fits w' (nat_abs (to_z w n))
  unsigned_ok t h = rw p.back (t, record { fits = h })

-- a number that fits, to a signed type that is as wide or wider
module _ {w w' : Width} {x : ℤ} (wider : T (leb (hbits w) (hbits w'))) (f : SFits w x) where
  pub wider_ok : SFits w' (to_z w (of_z w x))
  wider_ok = cast_ok (given f) w' (sfits_widen wider f)

  pub wider_is : Reads w' (of_z w' (to_z w (of_z w x))) x
  wider_is = cast_is (given f) w' (sfits_widen wider f)

pub unsigned_is : {w : Width} {n : ℕ} {x : ℤ} → Reads w n x → nat_abs (to_z w n) ≡ nat_abs x
unsigned_is p = ap nat_abs p.back

-- ---- made positive: a number, cast to a wider type, and n, at least the size of the least number of its own, cast to an unsigned type
module _ {w w' : Width} {x : ℤ} {m n : ℕ} (f : SFits w x) (q : Reads w' m (pos n)) (above-least : 2 ^ hbits w ≤ n) (room : n + 2 ^ hbits w < 2 ^ hbits w') where
  small : nat_abs x ≤ 2 ^ hbits w
  small = omega (arith, abs_mag x, f.sfits)

  wide : Reads w' (of_z w' (to_z w (of_z w x))) x
  wide = cast_is (given f) w' (fits (omega (arith, small)))

  abbrev lifted : ℕ
  lifted = of_z w' (to_z w' (of_z w' (to_z w (of_z w x))) +ℤ to_z w' m)

  reads : Reads w' lifted (x +ℤ pos n)
  reads = add_is wide q (omega (arith, small))

  positive_sum : T (non_neg (x +ℤ pos n))
  positive_sum = nonneg (x +ℤ pos n) (omega (arith, sum x (pos n), size x, small))

  pub lift_cast : SFits w' (to_z w (of_z w x))
  lift_cast = cast_ok (given f) w' (fits (omega (arith, small)))

  pub lift_add : SFits w' (to_z w' (of_z w' (to_z w (of_z w x))) +ℤ to_z w' m)
  lift_add = add_ok wide q (omega (arith, small))

  pub lift_size : nat_abs (to_z w' lifted) < n + 2 ^ hbits w
  lift_size =
      let most : above x < 2 ^ hbits w = omega (arith, above_mag x, f.sfits) in
      let bound : nat_abs (x +ℤ pos n) ≤ n + above x =
      size_le (x +ℤ pos n) (n + above x) (omega (arith, sum x (pos n))) (omega (arith, sum x (pos n), size x, small)) in
      omega (arith, unsigned_is reads)

  pub lift_unsigned : T (non_neg (to_z w' lifted)) × Fits w' (nat_abs (to_z w' lifted))
  lift_unsigned = unsigned_ok reads w' positive_sum (half_full w' (omega (arith, unsigned_is reads, lift_size)))

  pub lift_is : pos (nat_abs (to_z w' lifted)) ≡ x +ℤ pos n
  lift_is = ap pos (unsigned_is reads) ∙ pos-nat_abs _ positive_sum

-- ---- tests: what a flag says of the numbers
module _ {w : Width} {n m : ℕ} {x y : ℤ} (p : Reads w n x) (q : Reads w m y) {b : Bool} where
  pub lt_is : lt_z (to_z w n) (to_z w m) ≡ b → lt_z x y ≡ b
  lt_is e = rw (← p.back, ← q.back) e

  pub le_is : le_z (to_z w n) (to_z w m) ≡ b → le_z x y ≡ b
  le_is e = rw (← p.back, ← q.back) e

-- ---- |x|: a number, or 0 less it where it is below 0, cast to the unsigned type
module _ {w : Width} {n : ℕ} {x : ℤ} (p : Reads w n x) (room : nat_abs x < 2 ^ hbits w) where
  zero_is : Reads w 0 (pos 0)
  zero_is = positive w 0 (omega arith)

  abbrev turned : ℕ
  turned = of_z w (to_z w 0 -ℤ to_z w n)

  turned_reads : Reads w turned (pos 0 -ℤ x)
  turned_reads = sub_is zero_is p (omega arith)

  pub size_turns : SFits w (to_z w 0 -ℤ to_z w n)
  size_turns = sub_ok zero_is p (omega arith)

  pub size_below : nat_abs (to_z w turned) ≡ nat_abs x
  size_below = unsigned_is turned_reads ∙ ap nat_abs (+ℤ_idl (neg_ℤ x)) ∙ abs_neg x

  pub size_below_cast : lt_z (to_z w n) (to_z w 0) ≡ true → T (non_neg (to_z w turned)) × Fits w (nat_abs (to_z w turned))
  size_below_cast e =
      let negative = lt_yes x (pos 0) (lt_is p zero_is e) in
      unsigned_ok turned_reads w (nonneg (pos 0 -ℤ x) (omega (arith, negative, difference (pos 0) x)))
      (half_full w (omega (arith, unsigned_is turned_reads, size_below)))

  pub size_from : nat_abs (to_z w n) ≡ nat_abs x
  size_from = unsigned_is p

  pub size_from_cast : lt_z (to_z w n) (to_z w 0) ≡ false → T (non_neg (to_z w n)) × Fits w (nat_abs (to_z w n))
  size_from_cast e = unsigned_ok p w (nonneg x (omega (arith, lt_no x (pos 0) (lt_is p zero_is e)))) (half_full w room)

-- ---- two's complement
pub bits_above : (w : Width) (z : ℤ) → under z ≤ above z → of_z w z ≡ above z
bits_above w (pos n) h = refl
bits_above w (negsuc n) h = absurd (no n h)
  where
    no : (n : ℕ) → suc n ≤ 0 → ⊥
    no n h = omega arith

pub bits_under : (w : Width) (z : ℤ) → above z < under z → of_z w z ≡ 2 ^ bits w - under z
bits_under w (pos n) h = absurd (no n h)
  where
    no : (n : ℕ) → n < 0 → ⊥
    no n h = omega arith
bits_under w (negsuc n) h = refl

-- the bits from half the width's power on are a negative number
pub high_bits : (w : Width) (n : ℕ) → n < 2 ^ bits w → 2 ^ bits w ≤ n + 2 ^ hbits w → to_z w n ≡ negsuc (2 ^ bits w - suc n)
high_bits w n h half = ap (to_z w) (cut (2 ^ bits w) n h) ∙ to_z-neg w (2 ^ bits w - suc n) (omega arith)
  where
    cut : (b n : ℕ) → n < b → n ≡ b - suc (b - suc n)
    cut b n h = omega arith
