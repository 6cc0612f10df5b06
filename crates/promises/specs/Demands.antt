-- Demands 1 and 3, over the definitions that the calls' contracts cite. Each statement is proved in proofs/ under its own name:
-- `commitment_keeps : CommitmentKeeps`, and so on. An answer is spoken of by the paper's number of its outcome, `number_of`; 0 is "done" (`OnlyDone`).
use Rattle.std.specs.Prelude.{◌≡◌, true, List, ℕ, ◌*◌, ◌^◌, ◌<◌, ◌≤◌, ℤ, length, Some}
use Rattle.sets.specs.declared.Set.{Set}
use Rattle.sets.specs.Numbers.{dimension, places, kappa_of, key_limit_of, asked_of}
use Rattle.answers.specs.Outcomes.{Outcome, Done, number_of, Filled, filled}
use Rattle.vectors.specs.Pairs.{pair, squares_pair}
use Rattle.vectors.specs.Places.{proper_list}
use Rattle.keys.specs.Key.{key_test}
use Rattle.commitment.specs.Commitment.{are_masks, committed, commitment, Outputs, with_rests, commitment_with_rests}
use Rattle.choices.specs.Choices.{choices}
use Rattle.masking.specs.Masking.{masked, first_trial, second_trial}
use Rattle.signing.specs.Response.{Lent, secret, drawing, responded, drawn, numbered, response}
use Rattle.checking.specs.Checking.{Claim, claim, rebuild, rebuild_default_one, comparison}
use Rattle.record_forms.specs.declared.Form.{Form}
use Rattle.records.specs.Writer.{Offered, writing_of}
use Rattle.records.specs.Reader.{Buffers, found, reading_of}
use Rattle.records.specs.Conversion.{conversion_of}

-- ---- demand 1: each refusal "leaves the output buffers with the contents they came with"

abbrev pub OnlyDone : Type 0
OnlyDone = (number_of Done ≡ 0) × ((o : Outcome) → number_of o ≡ 0 → o ≡ Done)

-- the commitment's vector, after any number other than 0
abbrev pub CommitmentKeeps : Type 0
CommitmentKeeps =
    (set : ℕ) (a : List ℕ) (y1 y2 : List ℤ) (out : List ℕ) (o : Outcome) (after : List ℕ)
    → commitment set a y1 y2 out ≡ filled o after
    → (number_of o ≡ 0 → ⊥)
    → after ≡ out

-- both vectors of the commitment with rests
abbrev pub CommitmentWithRestsKeeps : Type 0
CommitmentWithRestsKeeps =
    (set : ℕ) (a : List ℕ) (y1 y2 : List ℤ) (old : Outputs) (o : Outcome) (digits : List ℕ) (rests : List ℤ)
    → commitment_with_rests set a y1 y2 old ≡ with_rests o digits rests
    → (number_of o ≡ 0 → ⊥)
    → (digits ≡ old.digits) × (rests ≡ old.rests)

-- the rebuild's vector
abbrev pub RebuildKeeps : Type 0
RebuildKeeps =
    (set : ℕ) (a : List ℕ) (c : Claim) (out : List ℕ) (o : Outcome) (after : List ℕ)
    → rebuild set a c out ≡ filled o after
    → (number_of o ≡ 0 → ⊥)
    → after ≡ out

-- that of the rebuild which keeps the old default
abbrev pub RebuildDefaultOneKeeps : Type 0
RebuildDefaultOneKeeps =
    (set : ℕ) (a : List ℕ) (c : Claim) (out : List ℕ) (o : Outcome) (after : List ℕ)
    → rebuild_default_one set a c out ≡ filled o after
    → (number_of o ≡ 0 → ⊥)
    → after ≡ out

-- both vectors of the response; the key number is then 0
abbrev pub ResponseKeeps : Type 0
ResponseKeeps =
    (set key : ℕ) (c : Lent) (o : Outcome) (count back : ℕ) (after1 after2 : List ℤ)
    → response set key c ≡ responded o count back after1 after2
    → (number_of o ≡ 0 → ⊥)
    → (back ≡ 0) × (after1 ≡ c.z1) × (after2 ≡ c.z2)

-- the writer's output, in either form
abbrev pub WriterKeeps : Type 0
WriterKeeps =
    (form : Form) (a : Offered) (out : List ℕ) (o : Outcome) (after : List ℕ)
    → writing_of form a out ≡ filled o after
    → (number_of o ≡ 0 → ⊥)
    → after ≡ out

-- the reader's three buffers; set and key number are then 0
abbrev pub ReaderKeeps : Type 0
ReaderKeeps =
    (form : Form) (rec : List ℕ) (old : Buffers) (o : Outcome) (set key : ℕ) (after : Buffers)
    → reading_of form rec old ≡ found o set key after
    → (number_of o ≡ 0 → ⊥)
    → (set ≡ 0) × (key ≡ 0) × (after ≡ old)

-- a conversion's output
abbrev pub ConversionKeeps : Type 0
ConversionKeeps =
    (from to : Form) (rec out : List ℕ) (o : Outcome) (after : List ℕ)
    → conversion_of from to rec out ≡ filled o after
    → (number_of o ≡ 0 → ⊥)
    → after ≡ out

-- "The word count is 0 for refusals before the draw; with 9 it is the number of words lent" (01). The refusals before the draw are numbers 1 to 7
-- and 15
abbrev pub ResponseCounts : Type 0
ResponseCounts =
    (set key : ℕ) (c : Lent) (o : Outcome) (count back : ℕ) (after1 after2 : List ℤ)
    → response set key c ≡ responded o count back after1 after2
    → (1 ≤ number_of o → number_of o ≤ 7 → count ≡ 0) × (number_of o ≡ 15 → count ≡ 0) × (number_of o ≡ 9 → count ≡ length c.words)

-- ---- demand 3

-- the call answers 0 and leaves this vector
abbrev pub Fills : Filled → List ℕ → Type 0
Fills call vector = (o : Outcome) × (call ≡ filled o vector) × (number_of o ≡ 0)

-- "any key that passes the key test, any masks within their limit, any proper challenge list, either sign bit, any thresholds and any random words"
pub record Admissible (set : ℕ) (s : Set) (c : Lent) : Type 0 where
  pub asked : asked_of set ≡ Some s
  pub key : number_of (key_test set c.f c.g c.a) ≡ 0
  pub masks : are_masks c.y1 c.y2 ≡ true
  pub list : proper_list s c.list ≡ true
  pub long_y1 : length c.y1 ≡ dimension
  pub long_y2 : length c.y2 ≡ dimension

-- "every buffer .. at its stated length" (01), and 31 thresholds
pub record Buffered (c : Lent) : Type 0 where
  pub long_thresholds : length c.thresholds ≡ places
  pub long_z1 : length c.z1 ≡ dimension
  pub long_z2 : length c.z2 ≡ dimension

-- "Take any key that passes the key test, .. any proper challenge list, .. Then the key's challenge response is never longer, squared, than the challenge
-- size times the key's squared length."
abbrev pub ResponseLength : Type 0
ResponseLength =
    (set : ℕ) (s : Set) (c : Lent)
    → asked_of set ≡ Some s
    → number_of (key_test set c.f c.g c.a) ≡ 0
    → proper_list s c.list ≡ true
    → squares_pair (choices (secret c) c.list) ≤ kappa_of s * squares_pair (secret c)

-- "And if a signature is given out, the checker, holding only the public key, the signature and the same list, refuses nothing and rebuilds exactly the
-- rounded vector that the signer committed to", for either sign bit, any thresholds and any random words: the vector that the commitment's definition gives
-- for the same masks. The key, the masks and the list are what the response itself has let pass. `before` and `old` are what the vectors of the commitment
-- and of the rebuild held.
abbrev pub GivenOutIsAccepted : Type 0
GivenOutIsAccepted =
    (set key : ℕ) (c : Lent) (o : Outcome) (count back : ℕ) (z1 z2 : List ℤ) (before old : List ℕ)
    → response set key c ≡ responded o count back z1 z2
    → number_of o ≡ 0
    → length before ≡ dimension → length old ≡ dimension
    → (s : Set) × (asked_of set ≡ Some s)
    × Fills (commitment set c.a c.y1 c.y2 before) (committed s c.a c.y1 c.y2)
    × Fills (rebuild set c.a (claim z1 z2 c.list) old) (committed s c.a c.y1 c.y2)

-- The numbers of the draw's two trials are those that 01 writes, with nothing lost: v is no longer, squared, than kappa K, so that the first is a difference of
-- whole numbers, and neither has a binary place above 30, so that a trial looks at all of it.
abbrev pub TrialsFit : Type 0
TrialsFit =
    (set : ℕ) (s : Set) (c : Lent)
    → Admissible set s c
    → (squares_pair (choices (secret c) c.list) ≤ kappa_of s * key_limit_of s)
    × (first_trial s (choices (secret c) c.list) < 2 ^ places)
    × (second_trial (masked c.sign (pair c.y1 c.y2) (choices (secret c) c.list)) (choices (secret c) c.list) < 2 ^ places)

-- Those premises are enough to come to the draw: the response refuses nothing before it, whatever the sign bit, the thresholds and the words are.
abbrev pub ReachesTheDraw : Type 0
ReachesTheDraw =
    (set key : ℕ) (s : Set) (c : Lent)
    → Admissible set s c → Buffered c
    → response set key c ≡ numbered key (drawn s (drawing c) (choices (secret c) c.list))

-- Demand 3 as it stands, the checker's buffers at their stated length too: both sentences under all the premises it names; the checker compares the list that
-- came with the signature with the same list.
abbrev pub Demand3 : Type 0
Demand3 =
    (set : ℕ) (s : Set) (c : Lent) (before old : List ℕ)
    → Admissible set s c → Buffered c
    → length before ≡ dimension → length old ≡ dimension
    → (squares_pair (choices (secret c) c.list) ≤ kappa_of s * squares_pair (secret c))
    × ((key : ℕ) (o : Outcome) (count back : ℕ) (z1 z2 : List ℤ)
    → response set key c ≡ responded o count back z1 z2
    → number_of o ≡ 0
    → (number_of (comparison set c.list c.list) ≡ 0)
    × Fills (commitment set c.a c.y1 c.y2 before) (committed s c.a c.y1 c.y2)
    × Fills (rebuild set c.a (claim z1 z2 c.list) old) (committed s c.a c.y1 c.y2))
