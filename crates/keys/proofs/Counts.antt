-- What the counts of f and g tell of the squared length of s1 = f and s2 = 2g + 1: it is at most K. Assumes nothing.
use mathlib.Core.Path.{◌≡◌, refl, sym, ap, ◌∙◌}
use mathlib.Core.Bool.{true, false, cond}
use mathlib.Core.List.{List, [], ◌∷◌, map}
use Prim.Native.Nat.{ℕ, zero, suc, ◌+◌, ◌*◌, ◌<◌, ◌≤◌}
use native.Mathlib.Nat.{not-suc-le-zero, le_of_suc-le-suc, suc-ne-zero}
use native.Mathlib.Numerals.{add-one}
use native.Mathlib.Omega.{arith}
use borrow.Author.Tests.{eqb-true, ne_eqb, leb-true, le-leb}
use lib.Dec.{eqb, lit≤}
use lib.IntN.{ℤ, pos, negsuc, nat_abs, ◌+ℤ◌, ◌*ℤ◌, +ℤ_assoc}
use lib.ListN.{length, take, get_or}
use Rattle.laws.specs.Lists.{every}
use Rattle.laws.specs.Refusals.{must}
use Rattle.laws.proofs.Bounds.{abs_mul}
use Rattle.laws.proofs.Chain.{and_left, and_right}
use Rattle.sets.specs.declared.Set.{Set}
use Rattle.sets.specs.Numbers.{key_limit_of, ones_of, twos_of, coefficient_limit_of}
use Rattle.sets.proofs.Alike.{key_limit_is}
use Rattle.std.specs.Prelude.{Err}
use Rattle.answers.specs.declared.Refusal.TheVariants.{RelationBroken, CountsWrong}
use Rattle.answers.specs.Outcomes.{Done}
use Rattle.vectors.specs.Vectors.{squares}
use Rattle.vectors.specs.Pairs.{pair, squares_pair}
use Rattle.keys.specs.Key.{is_small, in_range, second, relation, counted, has_counts, right_counts, proper_key}
use Rattle.keys.proofs.Ranges.{f_small, g_small}
use Rattle.keys.proofs.Second.{double}

-- ---- one coefficient more
counted_suc : (size : ℕ) (f : List ℤ) (i : ℕ) → i < length f
    → counted size (take (suc i) f) ≡ counted size (take i f) + cond (eqb (nat_abs (get_or f i (pos 0))) size) 1 0
unfolding counted
counted_suc size [] i h = absurd (not-suc-le-zero h)
counted_suc size (x ∷ f) zero h = omega arith
counted_suc size (x ∷ f) (suc i) h = omega (arith, counted_suc size f i (le_of_suc-le-suc h))

pub counted_more : (size : ℕ) (f : List ℤ) (i : ℕ) → i < length f
    → counted size (take (i + 1) f) ≡ counted size (take i f) + cond (eqb (nat_abs (get_or f i (pos 0))) size) 1 0
counted_more size f i h = rw add-one (counted_suc size f i h)

-- ---- the squared length, of coefficients -2 .. 2
small_head : (x : ℤ) (f : List ℤ) → every is_small (x ∷ f) ≡ true → nat_abs x ≤ 2
unfolding every
small_head x f e = leb-true _ _ (and_left (is_small x) _ e)

small_tail : (x : ℤ) (f : List ℤ) → every is_small (x ∷ f) ≡ true → every is_small f ≡ true
unfolding every
small_tail x f e = and_right (is_small x) _ e

square : (n : ℕ) → n ≤ 2 → n * n ≡ cond (eqb n 1) 1 0 + 4 * cond (eqb n 2) 1 0
square zero h = refl
square (suc zero) h = refl
square (suc (suc zero)) h = refl
square (suc (suc (suc n))) h = absurd (omega arith)

-- d1 + 4 d2
pub squares_counted : (f : List ℤ) → every is_small f ≡ true → squares f ≡ counted 1 f + 4 * counted 2 f
unfolding squares counted
squares_counted [] e = refl
squares_counted (x ∷ f) e = omega (arith, square (nat_abs x) (small_head x f e), squares_counted f (small_tail x f e))

-- four times that
double_square : (n : ℕ) → n ≤ 2 → 2 * n * (2 * n) ≡ 4 * (n * n)
double_square zero h = refl
double_square (suc zero) h = refl
double_square (suc (suc zero)) h = refl
double_square (suc (suc (suc n))) h = absurd (omega arith)

squares_double : (g : List ℤ) → every is_small g ≡ true → squares (map double g) ≡ 4 * squares g
unfolding squares
squares_double [] e = refl
squares_double (x ∷ g) e =
    let head : nat_abs (double x) * nat_abs (double x) ≡ 4 * (nat_abs x * nat_abs x) = rw (abs_mul (pos 2) x) (double_square (nat_abs x) (small_head x g e)) in
    omega (arith, head, squares_double g (small_tail x g e))

-- what the 1 at place 0 adds to the square of 2x: 4x + 1
head_square : (x : ℤ) → nat_abs x ≤ 2
    → pos (nat_abs (double x +ℤ pos 1) * nat_abs (double x +ℤ pos 1)) ≡ pos (4 * (nat_abs x * nat_abs x)) +ℤ (pos 4 *ℤ x +ℤ pos 1)
head_square (pos zero) h = refl
head_square (pos (suc zero)) h = refl
head_square (pos (suc (suc zero))) h = refl
head_square (pos (suc (suc (suc n)))) h = absurd (omega arith)
head_square (negsuc zero) h = refl
head_square (negsuc (suc zero)) h = refl
head_square (negsuc (suc (suc n))) h = absurd (omega arith)

head_limit : (x : ℤ) → nat_abs x ≤ 2 → nat_abs (double x +ℤ pos 1) * nat_abs (double x +ℤ pos 1) ≤ 4 * (nat_abs x * nat_abs x) + (4 * nat_abs x + 1)
head_limit (pos zero) h = lit≤ tt
head_limit (pos (suc zero)) h = lit≤ tt
head_limit (pos (suc (suc zero))) h = lit≤ tt
head_limit (pos (suc (suc (suc n)))) h = absurd (omega arith)
head_limit (negsuc zero) h = lit≤ tt
head_limit (negsuc (suc zero)) h = lit≤ tt
head_limit (negsuc (suc (suc n))) h = absurd (omega arith)

-- a coefficient is 2 only where some are
counted_limit : (n twos others : ℕ) → n ≤ 2 → cond (eqb n 2) 1 0 + others ≡ twos → n ≤ cond (eqb twos 0) 1 2
counted_limit n (suc twos) others h e = rw (ne_eqb (suc twos) 0 (suc-ne-zero twos)) h
counted_limit zero zero others h e = lit≤ tt
counted_limit (suc zero) zero others h e = lit≤ tt
counted_limit (suc (suc zero)) zero others h e = absurd (omega (arith, e))
counted_limit (suc (suc (suc n))) zero others h e = absurd (omega arith)

-- ---- where the counts are right
module _ (s : Set) where
  abbrev whole : ℕ
  whole = ones_of s + 4 * twos_of s

  ones_are : (f : List ℤ) → has_counts s f ≡ true → counted 1 f ≡ ones_of s
  ones_are f e = eqb-true (counted 1 f) (ones_of s) (and_left _ _ e)

  twos_are : (f : List ℤ) → has_counts s f ≡ true → counted 2 f ≡ twos_of s
  twos_are f e = eqb-true (counted 2 f) (twos_of s) (and_right (eqb (counted 1 f) (ones_of s)) _ e)

  squares_are : (f : List ℤ) → every is_small f ≡ true → has_counts s f ≡ true → squares f ≡ whole
  squares_are f small e = omega (arith, squares_counted f small, ones_are f e, twos_are f e)

  module _ (f g : List ℤ) (small-f : every is_small f ≡ true) (small-g : every is_small g ≡ true) (counts : right_counts s f g ≡ true) where
    first : squares f ≡ whole
    first = squares_are f small-f (and_left (has_counts s f) _ counts)

    rest : squares g ≡ whole
    rest = squares_are g small-g (and_right (has_counts s f) _ counts)

  -- s2, from its first coefficient
  module _ (f : List ℤ) (x : ℤ) (g : List ℤ) (small-f : every is_small f ≡ true) (small-g : every is_small (x ∷ g) ≡ true) (counts : right_counts s f (x ∷ g) ≡ true) where
    abbrev n : ℕ
    n = nat_abs x

    abbrev head : ℕ
    head = nat_abs (double x +ℤ pos 1) * nat_abs (double x +ℤ pos 1)

    -- with the square of 2x for that of 2x + 1 it is five times d1 + 4 d2
    even : squares f + squares (map double g) + 4 * (n * n) ≡ 5 * whole
    unfolding squares
    even =
        omega (arith, first f (x ∷ g) small-f small-g counts, rest f (x ∷ g) small-f small-g counts, squares_double g (small_tail x g small-g))

    limit : n ≤ coefficient_limit_of s
    unfolding counted
    limit =
        counted_limit n (twos_of s) (counted 2 g) (small_head x g small-g) (twos_are (x ∷ g) (and_right (has_counts s f) _ counts))

    short : squares_pair (pair f (second (x ∷ g))) ≤ key_limit_of s
    unfolding squares second
    short = omega (arith, even, limit, head_limit x (small_head x g small-g), key_limit_is s)

    exact : pos (squares_pair (pair f (second (x ∷ g)))) ≡ pos (5 * whole) +ℤ (pos 4 *ℤ x +ℤ pos 1)
    unfolding squares second
    exact =
        let sum : squares f + (head + squares (map double g)) ≡ squares f + squares (map double g) + head = omega arith in
        ap pos sum ∙ ap (λ (z : ℤ). pos (squares f + squares (map double g)) +ℤ z) (head_square x (small_head x g small-g))
        ∙ sym (+ℤ_assoc (pos (squares f + squares (map double g))) (pos (4 * (n * n))) (pos 4 *ℤ x +ℤ pos 1))
        ∙ ap (λ (m : ℕ). pos m +ℤ (pos 4 *ℤ x +ℤ pos 1)) even

  -- the squared length is at most K
  pub counts_short : (f g : List ℤ) → every is_small f ≡ true → every is_small g ≡ true → right_counts s f g ≡ true → squares_pair (pair f (second g)) ≤ key_limit_of s
  unfolding squares second
  counts_short f [] small-f small-g counts = omega (arith, first f [] small-f small-g counts, key_limit_is s)
  counts_short f (x ∷ g) small-f small-g counts = short f x g small-f small-g counts

  -- and what it is
  pub counts_length : (f g : List ℤ) → every is_small f ≡ true → every is_small g ≡ true → right_counts s f g ≡ true → 0 < length g
      → pos (squares_pair (pair f (second g))) ≡ pos (5 * (ones_of s + 4 * twos_of s)) +ℤ (pos 4 *ℤ get_or g 0 (pos 0) +ℤ pos 1)
  counts_length f [] small-f small-g counts h = absurd (not-suc-le-zero h)
  counts_length f (x ∷ g) small-f small-g counts h = exact f x g small-f small-g counts

  -- so that a key in range is proper where its counts are right and its relation holds
  pub proper_by_relation : (f g : List ℤ) (a : List ℕ) → in_range f g a ≡ true → right_counts s f g ≡ true
      → proper_key s f g a ≡ must (relation a f (second g)) (Err RelationBroken) Done
  unfolding proper_key
  proper_by_relation f g a range counts =
      rw (counts, le-leb (squares_pair (pair f (second g))) (key_limit_of s) (counts_short f g (f_small f g a range) (g_small f g a range) counts))

  pub improper_by_counts : (f g : List ℤ) (a : List ℕ) → right_counts s f g ≡ false → proper_key s f g a ≡ Err CountsWrong
  unfolding proper_key
  improper_by_counts f g a counts = rw counts
