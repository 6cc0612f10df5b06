-- Demand 3, to be run: the checker's half as one truth value, the signer's half as what it leaves behind, and the promise that the one says yes to the other.
use Rattle.std.specs.Prelude.{◌≡◌, Bool, true, false, ◌&&◌, List, ℕ, ◌^◌, ◌<◌, ◌≤◌, ℤ, pos, length, take, replicate, Some}
use Rattle.laws.specs.Lists.{same}
use Rattle.sets.specs.declared.Set.{Set}
use Rattle.sets.specs.Numbers.{dimension, list_limit, kappa_of, asked_of}
use Rattle.answers.specs.Outcomes.{Outcome, number_of, is_done, unless, key_with, for_set, Filled, filled}
use Rattle.commitment.specs.Commitment.{committed, commitment}
use Rattle.signing.specs.Response.{Lent, Responded, responded, response}
use Rattle.checking.specs.Checking.{Claim, claim, rebuild, comparison}
use Rattle.record_forms.specs.declared.Form.{Form}
use Rattle.record_forms.specs.Forms.{total_of}
use Rattle.records.specs.Writer.{offered, writing_of}
use Rattle.records.specs.Reader.{Buffers, buffers, Found, found, reading_of}
use Rattle.records.specs.Conversion.{conversion_of}
use Rattle.promises.specs.Demands.{Fills}

-- ---- the checker

-- a call that is done, with this vector
unfoldable pub fills : Filled → List ℕ → Bool
fills (filled o x) rounded = is_done o && same x rounded

-- "the checker, holding only the public key, the signature and the same list, refuses nothing and rebuilds exactly the rounded vector" (demand 3)
unfoldable pub rebuilds : List ℕ → ℕ → Claim → List ℕ → Bool
rebuilds a set c rounded = is_done (comparison set c.list c.list) && fills (rebuild set a c (replicate dimension 0)) rounded

-- of what the reader leaves behind; the list is the first kappa entries of its buffer
unfoldable pub read_rebuilds : List ℕ → List ℕ → Found → Bool
read_rebuilds a rounded (found o set key b) =
    is_done o && for_set (asked_of set) false (λ s. rebuilds a set (claim b.z1 b.z2 (take (kappa_of s) b.list)) rounded)

-- the checker's buffers hold zeros
abbrev pub blanks : Buffers
blanks = buffers (replicate dimension (pos 0)) (replicate dimension (pos 0)) (replicate list_limit 0)

-- of a record of either form
unfoldable pub accepted : Form → List ℕ → List ℕ → List ℕ → Bool
accepted form a rec rounded = read_rebuilds a rounded (reading_of form rec blanks)

-- "which key signed this?" (02, C-13): the key number that the reader answers
abbrev pub key_of : Found → ℕ
key_of (found o set key b) = key

unfoldable pub key_read : Form → List ℕ → ℕ
key_read form rec = key_of (reading_of form rec blanks)

-- ---- the signer

-- what it leaves behind: the outcome, the count of words taken, the key number, the output that has the record, and the vector committed to
pub data Sent : Type 0 where
  sent : Outcome → ℕ → ℕ → List ℕ → List ℕ → Sent

-- the record after the commitment
abbrev pub recorded : ℕ → ℕ → List ℕ → Filled → Sent
recorded count key rounded (filled o out) = sent o count (key_with o key) out rounded

-- the commitment and the writer, each where nothing was refused before it; `out` is what the output held
abbrev pub committed_and : ℕ → ℕ → List ℕ → Filled → Filled → Sent
committed_and count key out (filled o rounded) writing = unless o (λ refusal. sent refusal count 0 out rounded) (recorded count key rounded writing)

-- what they held
pub record Held : Type 0 where
  pub out : List ℕ
  pub before : List ℕ

abbrev pub held : List ℕ → List ℕ → Held
held out before = record { out = out; before = before }

unfoldable pub sent_after : Form → ℕ → Lent → Held → Responded → Sent
sent_after form set c h (responded o count key z1 z2) =
    unless o (λ refusal. sent refusal count key h.out h.before)
    (committed_and count key h.out (commitment set c.a c.y1 c.y2 h.before) (writing_of form (offered set key z1 z2 c.list) h.out))

-- the response first; the record is of the form that is asked for, and has the key number that the response answers
abbrev pub sending : Form → ℕ → ℕ → Lent → Held → Sent
sending form set key c h = sent_after form set c h (response set key c)

-- ---- the promise

-- For every response given out the commitment for the same masks answers 0, the writer of either form for the same set answers 0, whatever their buffers held,
-- and the checker accepts the record, the first bytes of the writer's output, for the vector committed to. A conversion of that record answers 0 too, and the
-- checker accepts what it made. The key number that is read is each time the one that was lent to the response; `back` is what the response answers of it.
abbrev pub SaysYes : Type 0
SaysYes =
    (form : Form) (set key : ℕ) (c : Lent) (o : Outcome) (count back : ℕ) (z1 z2 : List ℤ) (s : Set) (before out : List ℕ)
    → key < 2 ^ 32
    → response set key c ≡ responded o count back z1 z2
    → number_of o ≡ 0
    → asked_of set ≡ Some s
    → length before ≡ dimension → total_of form s ≤ length out
    → (after : List ℕ)
    × Fills (commitment set c.a c.y1 c.y2 before) (committed s c.a c.y1 c.y2)
    × Fills (writing_of form (offered set back z1 z2 c.list) out) after
    × (accepted form c.a (take (total_of form s) after) (committed s c.a c.y1 c.y2) ≡ true)
    × (key_read form (take (total_of form s) after) ≡ key)
    × ((to : Form) (room : List ℕ)
    → total_of to s ≤ length room
    → (other : List ℕ)
    × Fills (conversion_of form to (take (total_of form s) after) room) other
    × (accepted to c.a (take (total_of to s) other) (committed s c.a c.y1 c.y2) ≡ true)
    × (key_read to (take (total_of to s) other) ≡ key))
