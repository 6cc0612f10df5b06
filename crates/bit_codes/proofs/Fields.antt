-- What the code asks that takes bits out of three digits. Assumes nothing.
use mathlib.Core.Path.{◌≡◌, ap, ap₂, ◌∙◌}
use Prim.Native.Nat.{ℕ, ◌+◌, ◌*◌, ◌/◌, ◌%◌, ◌^◌, ◌<◌, ◌≤◌}
use native.Mathlib.Nat.{add_comm, one-mul, lt_of_lt_of_le}
use native.Mathlib.Omega.{arith}
use mir.Syntax.{w64}
use mir.Val.{Fits}
use lib.Arith.{digits_lt}
use lib.Dec.{lit<}
use lib.Pow.{pow_mono, pow-add, shl_exact}

-- a number and another above it
joined_below : (v k : ℕ) {a b : ℕ} → a < 2 ^ v → b < 2 ^ k → a + b * 2 ^ v < 2 ^ (k + v)
joined_below v k {a} {b} ha hb = rw (add_comm a (b * 2 ^ v), pow-add 2 k v) (digits_lt hb ha)

first_exact : (c v : ℕ) → c < 2 ^ v → v ≤ 16 → c * 2 ^ v % 2 ^ 64 ≡ c * 2 ^ v
first_exact c v hc hv = shl_exact v v 64 hc (omega arith)

first_below : (b c v : ℕ) → b < 2 ^ v → c < 2 ^ v → b + c * 2 ^ v < 2 ^ (v + v)
first_below b c v hb hc = joined_below v v hb hc

second_exact : (b c v : ℕ) → b < 2 ^ v → c < 2 ^ v → v ≤ 16 → (b + c * 2 ^ v % 2 ^ 64) * 2 ^ v % 2 ^ 64 ≡ (b + c * 2 ^ v) * 2 ^ v
second_exact b c v hb hc hv =
    ap (λ (n : ℕ). (b + n) * 2 ^ v % 2 ^ 64) (first_exact c v hc hv) ∙ shl_exact (v + v) v 64 (first_below b c v hb hc) (omega arith)

pub second_fits : (a b c v : ℕ) → a < 2 ^ v → b < 2 ^ v → c < 2 ^ v → v ≤ 16 → Fits w64 (a + (b + c * 2 ^ v % 2 ^ 64) * 2 ^ v % 2 ^ 64)
second_fits a b c v ha hb hc hv =
    let most : v + v + v ≤ 64 = omega arith in
    record { fits = rw (second_exact b c v hb hc hv) (lt_of_lt_of_le (joined_below v (v + v) ha (first_below b c v hb hc)) (pow_mono most)) }

pub taken : (a b c v s w : ℕ) → b < 2 ^ v → c < 2 ^ v → v ≤ 16 → w ≤ 16
    → (a + (b + c * 2 ^ v % 2 ^ 64) * 2 ^ v % 2 ^ 64) / 2 ^ s % (1 * 2 ^ w % 2 ^ 64) ≡ (a + (b + c * 2 ^ v) * 2 ^ v) / 2 ^ s % 2 ^ w
taken a b c v s w hb hc hv hw =
    ap₂ (λ (m n : ℕ). (a + m) / 2 ^ s % n) (second_exact b c v hb hc hv) (shl_exact 1 w 64 (lit< tt) (omega arith) ∙ one-mul (2 ^ w))

-- a mask of w bits
pub mask_is : (w : ℕ) → w ≤ 16 → 1 * 2 ^ w % 2 ^ 64 ≡ 2 ^ w
mask_is w hw = shl_exact 1 w 64 (lit< tt) (omega arith) ∙ one-mul (2 ^ w)
