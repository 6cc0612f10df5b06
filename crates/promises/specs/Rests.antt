-- 02, C-20, over the definitions of both commitments. Each statement is proved in proofs/Rests.antt under its own name.
use Rattle.std.specs.Prelude.{◌≡◌, List, ℕ, ◌*◌, ◌%◌, ◌^◌, ◌<◌, ℤ, pos, ◌+ℤ◌, length, get_or, Some}
use Rattle.sets.specs.declared.Set.{Set}
use Rattle.sets.specs.Numbers.{dimension, d_of, p_of, asked_of}
use Rattle.answers.specs.Outcomes.{Outcome, number_of, Filled, filled}
use Rattle.rounding.specs.Laws.{is_rest}
use Rattle.commitment.specs.Commitment.{sums, commitment, Outputs, WithRests, with_rests, commitment_with_rests}

-- what the commitment with rests leaves behind, but for the rests
abbrev pub digits_of : WithRests → Filled
digits_of (with_rests o digits rests) = filled o digits

-- Both calls answer the same and write the same digits: where the lent vector of rests has its length the one is the other but for the rests, whatever stood in
-- either vector.
abbrev pub SameDigits : Type 0
SameDigits =
    (set : ℕ) (a : List ℕ) (y1 y2 : List ℤ) (old : Outputs)
    → length old.rests ≡ dimension
    → digits_of (commitment_with_rests set a y1 y2 old) ≡ commitment set a y1 y2 old.digits

-- With number 0 both vectors together tell of every sum what it was rounded to and how far it lies from there: it is 2^d n plus the rest, for an n whose
-- remainder by p is the digits, and the rest lies in -2^(d-1) .. 2^(d-1) - 1.
abbrev pub RestsOfSums : Type 0
RestsOfSums =
    (set : ℕ) (s : Set) (a : List ℕ) (y1 y2 : List ℤ) (old : Outputs) (o : Outcome) (digits : List ℕ) (rests : List ℤ)
    → asked_of set ≡ Some s
    → commitment_with_rests set a y1 y2 old ≡ with_rests o digits rests
    → number_of o ≡ 0
    → (length digits ≡ dimension) × (length rests ≡ dimension)
    × ((i : ℕ)
    → i < dimension
    → (n : ℕ)
    × (pos (get_or (sums a y1 y2) i 0) ≡ pos (2 ^ d_of s * n) +ℤ get_or rests i (pos 0))
    × (get_or digits i 0 ≡ n % p_of s)
    × is_rest s (get_or rests i (pos 0)))
