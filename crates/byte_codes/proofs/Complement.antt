-- Two's complement, once for every width: the way there and back, and that it is std's. Assumes nothing.
use Rattle.std.proofs.Common.{◌≡◌, refl, sym, ap, ◌∙◌, Bool, true, false, ℕ, suc, ◌*◌, ◌-◌, ◌^◌, ◌<◌, ◌≤◌, arith}
use Rattle.std.specs.Int.{Width, cast_signed, cast_unsigned}
use borrow.Author.Tests.{lt-ltb, le-ltb, ltb-true, ltb-false}
use lib.Dec.{ltb}
use lib.IntN.{ℤ, pos, negsuc, nat_abs}
use mir.Val.{bits, hbits, sel}
use mir.ValLaws.{pow-bits}
use Rattle.laws.proofs.Bounds.{cond_ind}
use Rattle.byte_codes.specs.Bytes.{complement, from_complement}

-- ---- there and back, in any number of binary digits
module _ (bits : ℕ) where
  pub from_complement_low : (x : ℕ) → 2 * x < 2 ^ bits → from_complement bits x ≡ pos x
  unfolding from_complement
  from_complement_low x h = rw (lt-ltb _ _ h)

  pub from_complement_high : (x : ℕ) → 2 ^ bits ≤ 2 * x → from_complement bits x ≡ negsuc (2 ^ bits - suc x)
  unfolding from_complement
  from_complement_high x h = rw (le-ltb _ _ h)

  pub from_complement_complement : (z : ℤ) → 2 * nat_abs z < 2 ^ bits → from_complement bits (complement bits z) ≡ z
  unfolding complement
  from_complement_complement (pos n) h = from_complement_low n h
  from_complement_complement (negsuc n) h = from_complement_high (2 ^ bits - suc n) (omega arith) ∙ ap negsuc (omega arith)

  pub complement_from_complement : (x : ℕ) → x < 2 ^ bits → complement bits (from_complement bits x) ≡ x
  unfolding complement from_complement
  complement_from_complement x h =
      cond_ind (ltb (2 * x) (2 ^ bits)) (pos x) (negsuc (2 ^ bits - suc x)) (λ z. complement bits z ≡ x) (λ low. refl) (λ high. back (2 ^ bits) h)
    where
      back : (m : ℕ) → x < m → m - suc (m - suc x) ≡ x
      back m k = omega arith

  pub complement_below : (z : ℤ) → 2 * nat_abs z < 2 ^ bits → complement bits z < 2 ^ bits
  unfolding complement
  complement_below (pos n) h = omega arith
  complement_below (negsuc n) h = omega arith

-- ---- std's words for it
pub cast_complement : (w : Width) (z : ℤ) → cast_unsigned w z ≡ complement (bits w) z
unfolding complement
cast_complement w (pos n) = refl
cast_complement w (negsuc n) = refl

pub cast_from_complement : (w : Width) (x : ℕ) → cast_signed w x ≡ from_complement (bits w) x
cast_from_complement w x = of (ltb x (2 ^ hbits w)) refl
  where
    of : (t : Bool) → ltb x (2 ^ hbits w) ≡ t → sel t (pos x) (negsuc (2 ^ bits w - suc x)) ≡ from_complement (bits w) x
    of true e = sym (from_complement_low (bits w) x (omega (arith, pow-bits w, ltb-true x (2 ^ hbits w) e)))
    of false e = sym (from_complement_high (bits w) x (omega (arith, pow-bits w, ltb-false x (2 ^ hbits w) e)))
