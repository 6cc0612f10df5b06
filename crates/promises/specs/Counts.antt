-- 02, C-12: what the counts of f and g tell of a key, for every set alike. Each statement is proved in proofs/Counts.antt under its own name.
use Rattle.std.specs.Prelude.{◌≡◌, ◌↔◌, true, List, ◌++◌, ℕ, ◌+◌, ◌*◌, ◌-◌, ◌≤◌, ℤ, pos, ◌+ℤ◌, ◌*ℤ◌, length, get_or, replicate, Some}
use Rattle.laws.specs.Lists.{every}
use Rattle.sets.specs.declared.Set.{Set}
use Rattle.sets.specs.Numbers.{dimension, key_limit_of, ones_of, twos_of, asked_of}
use Rattle.answers.specs.Outcomes.{Outcome, number_of, filled}
use Rattle.vectors.specs.Pairs.{pair, squares_pair}
use Rattle.keys.specs.Key.{is_residue, second, relation, counted, key_test}
use Rattle.commitment.specs.Commitment.{commitment, Outputs, with_rests, commitment_with_rests}
use Rattle.signing.specs.Response.{Lent, responded, response}
use Rattle.checking.specs.Checking.{Claim, rebuild, comparison}
use Rattle.record_forms.specs.Sections.{fetched, section_of}
use Rattle.record_forms.specs.declared.Form.{Form}
use Rattle.records.specs.Writer.{Offered, writing_of}
use Rattle.records.specs.Reader.{Buffers, found, reading_of}
use Rattle.records.specs.Conversion.{conversion_of}

-- "f and g each have exactly d1 coefficients of 1 or -1 and exactly d2 of 2 or -2, the rest zero", of one of them
pub record Counts (s : Set) (f : List ℤ) : Type 0 where
  pub long : length f ≡ dimension
  pub ones : counted 1 f ≡ ones_of s
  pub twos : counted 2 f ≡ twos_of s
  pub zeros : counted 0 f ≡ dimension - ones_of s - twos_of s

-- A key passes the key test exactly where this holds of f and of g, a has 512 coefficients 0 .. 12288, and a f = 2g + 1 modulo q; K is not asked for.
abbrev pub KeyPasses : Type 0
KeyPasses =
    (set : ℕ) (f g : List ℤ) (a : List ℕ)
    → number_of (key_test set f g a) ≡ 0
    ↔ (s : Set) × (asked_of set ≡ Some s)
    × Counts s f × Counts s g
    × (length a ≡ dimension) × (every is_residue a ≡ true) × (relation a f (second g) ≡ true)

-- The squared length of (f, 2g + 1) is d1 + 4 d2 for f, four times that for 2g, and what the 1 at place 0 adds, 4 times g's coefficient there and 1.
abbrev pub KeyLength : Type 0
KeyLength =
    (s : Set) (f g : List ℤ)
    → Counts s f → Counts s g
    → pos (squares_pair (pair f (second g))) ≡ pos (5 * (ones_of s + 4 * twos_of s)) +ℤ (pos 4 *ℤ get_or g 0 (pos 0) +ℤ pos 1)

-- "where the counts are right, the squared length of (f, 2g + 1) is at most K"
abbrev pub KeyWithinLimit : Type 0
KeyWithinLimit =
    (s : Set) (f g : List ℤ)
    → Counts s f → Counts s g
    → squares_pair (pair f (second g)) ≤ key_limit_of s

-- d2 coefficients of 2 from place 0 on, then d1 of 1
abbrev pub largest_first : Set → List ℤ
largest_first s = replicate (twos_of s) (pos 2) ++ replicate (ones_of s) (pos 1) ++ replicate (dimension - ones_of s - twos_of s) (pos 0)

-- K is reached, by f and g alike: no smaller limit would do.
abbrev pub LimitReached : Type 0
LimitReached =
    (s : Set)
    → Counts s (largest_first s)
    × (squares_pair (pair (largest_first s) (second (largest_first s))) ≡ key_limit_of s)

-- not number 7
abbrev pub NotTooLong : Outcome → Type 0
NotTooLong o = number_of o ≡ 7 → ⊥

-- "Refusal 7 can no longer occur": no call answers it, whatever it is lent.
pub record NoKeyTooLong : Type 0 where
  pub key_tests : (set : ℕ) (f g : List ℤ) (a : List ℕ) → NotTooLong (key_test set f g a)
  pub responses :
      (set key : ℕ) (c : Lent) (o : Outcome) (count back : ℕ) (z1 z2 : List ℤ)
      → response set key c ≡ responded o count back z1 z2
      → NotTooLong o
  pub commitments :
      (set : ℕ) (a : List ℕ) (y1 y2 : List ℤ) (out : List ℕ) (o : Outcome) (after : List ℕ)
      → commitment set a y1 y2 out ≡ filled o after
      → NotTooLong o
  pub commitments_with_rests :
      (set : ℕ) (a : List ℕ) (y1 y2 : List ℤ) (old : Outputs) (o : Outcome) (digits : List ℕ) (rests : List ℤ)
      → commitment_with_rests set a y1 y2 old ≡ with_rests o digits rests
      → NotTooLong o
  pub rebuilds :
      (set : ℕ) (a : List ℕ) (c : Claim) (out : List ℕ) (o : Outcome) (after : List ℕ)
      → rebuild set a c out ≡ filled o after
      → NotTooLong o
  pub comparisons : (set : ℕ) (claimed hashed : List ℕ) → NotTooLong (comparison set claimed hashed)
  pub writers :
      (form : Form) (a : Offered) (out : List ℕ) (o : Outcome) (after : List ℕ)
      → writing_of form a out ≡ filled o after
      → NotTooLong o
  pub readers :
      (form : Form) (rec : List ℕ) (old : Buffers) (o : Outcome) (set key : ℕ) (after : Buffers)
      → reading_of form rec old ≡ found o set key after
      → NotTooLong o
  pub conversions :
      (from to : Form) (rec out : List ℕ) (o : Outcome) (after : List ℕ)
      → conversion_of from to rec out ≡ filled o after
      → NotTooLong o
  pub sections :
      (from to : ℕ) (p : ℕ × ℕ) (rec : List ℕ) (at : ℕ × ℕ) (bytes : List ℕ) (number place : ℕ)
      → section_of from to p rec ≡ fetched at bytes number place
      → number ≡ 7
      → ⊥
