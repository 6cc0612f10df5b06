-- 02, C-17: what 0 stands for on a call, and the calls that keep the old default. Each statement is proved in proofs/Defaults.antt under its own name.
use Rattle.std.specs.Prelude.{◌≡◌, List, ◌++◌, ℕ, ◌^◌, ◌<◌, ◌≤◌, ℤ, length, take, drop, get_or}
use Rattle.sets.specs.declared.Set.TheVariants.{I, IV}
use Rattle.sets.specs.Numbers.{dimension, list_limit, kappa_of}
use Rattle.answers.specs.Outcomes.{Outcome, number_of, Filled, filled}
use Rattle.answers.specs.Sizes.{kappa_asked}
use Rattle.keys.specs.Key.{key_test}
use Rattle.commitment.specs.Commitment.{committed, commitment, Outputs, commitment_with_rests}
use Rattle.signing.specs.Response.{Lent, responded, response}
use Rattle.checking.specs.Checking.{Claim, claim, rebuild, rebuild_default_one, comparison, comparison_default_one}
use Rattle.record_forms.specs.declared.Form.{Form}
use Rattle.record_forms.specs.Forms.{total_of}
use Rattle.record_forms.specs.Sizes.{record_bytes_asked}
use Rattle.records.specs.Writer.{offered, writing_of}
use Rattle.records.specs.Reader.{Buffers, buffers, found, reading_of}
use Rattle.promises.specs.Demands.{Fills}

-- Two numbers that no call tells apart: every call that takes a set leaves behind the same with either, done or refused, whatever else it is lent.
pub record SameCalls (n m : ℕ) : Type 0 where
  pub key_tests : (f g : List ℤ) (a : List ℕ) → key_test n f g a ≡ key_test m f g a
  pub commitments : (a : List ℕ) (y1 y2 : List ℤ) (out : List ℕ) → commitment n a y1 y2 out ≡ commitment m a y1 y2 out
  pub commitments_with_rests : (a : List ℕ) (y1 y2 : List ℤ) (old : Outputs) → commitment_with_rests n a y1 y2 old ≡ commitment_with_rests m a y1 y2 old
  pub responses : (key : ℕ) (c : Lent) → response n key c ≡ response m key c
  pub rebuilds : (a : List ℕ) (c : Claim) (out : List ℕ) → rebuild n a c out ≡ rebuild m a c out
  pub comparisons : (claimed hashed : List ℕ) → comparison n claimed hashed ≡ comparison m claimed hashed
  pub writers : (form : Form) (key : ℕ) (z1 z2 : List ℤ) (l out : List ℕ) → writing_of form (offered n key z1 z2 l) out ≡ writing_of form (offered m key z1 z2 l) out
  pub kappas : kappa_asked n ≡ kappa_asked m
  pub records : (form : Form) → record_bytes_asked form n ≡ record_bytes_asked form m

-- "From this release 0 on a call stands for set 4."
abbrev pub ZeroIsFour : Type 0
ZeroIsFour = SameCalls 0 4

-- "calls that keep the old default under a name that says so, and both are proved equal to the call with the set named": with 0 the call with 1 named, with
-- any other number the call with that number
pub record DefaultOne : Type 0 where
  pub rebuild_zero : (a : List ℕ) (c : Claim) (out : List ℕ) → rebuild_default_one 0 a c out ≡ rebuild 1 a c out
  pub rebuild_other : (set : ℕ) (a : List ℕ) (c : Claim) (out : List ℕ) → (set ≡ 0 → ⊥) → rebuild_default_one set a c out ≡ rebuild set a c out
  pub comparison_zero : (claimed hashed : List ℕ) → comparison_default_one 0 claimed hashed ≡ comparison 1 claimed hashed
  pub comparison_other : (set : ℕ) (claimed hashed : List ℕ) → (set ≡ 0 → ⊥) → comparison_default_one set claimed hashed ≡ comparison set claimed hashed

-- "Demands 2 and 3 read the same default on both sides": a signature that was asked for with 0 is accepted by a checker that asks with 0, and rebuilds what
-- was committed to with 0; the writer of either form that is asked with 0 makes its record, which states 4 in its byte 4 and reads back as the same
-- signature of set 4, with the key number that the response was lent.
abbrev pub DefaultOnBothSides : Type 0
DefaultOnBothSides =
    (form : Form) (key : ℕ) (c : Lent) (o : Outcome) (count back : ℕ) (z1 z2 : List ℤ) (before old out : List ℕ)
    → key < 2 ^ 32
    → response 0 key c ≡ responded o count back z1 z2
    → number_of o ≡ 0
    → length before ≡ dimension → length old ≡ dimension → total_of form IV ≤ length out
    → (number_of (comparison 0 c.list c.list) ≡ 0)
    × Fills (commitment 0 c.a c.y1 c.y2 before) (committed IV c.a c.y1 c.y2)
    × Fills (rebuild 0 c.a (claim z1 z2 c.list) old) (committed IV c.a c.y1 c.y2)
    × ((after : List ℕ)
    × Fills (writing_of form (offered 0 back z1 z2 c.list) out) after
    × (get_or after 4 0 ≡ 4)
    × ((b : Buffers)
    → length b.z1 ≡ dimension → length b.z2 ≡ dimension → length b.list ≡ list_limit
    → (r : Outcome) × (number_of r ≡ 0) × (reading_of form (take (total_of form IV) after) b ≡ found r 4 key (buffers z1 z2 (c.list ++ drop (kappa_of IV) b.list)))))

-- the call answers this number, and the vector holds what it held
abbrev pub Refuses : ℕ → Filled → List ℕ → Type 0
Refuses number call old = (o : Outcome) × (call ≡ filled o old) × (number_of o ≡ number)

-- "Our older cargo desk passed 0 to rebuild sheets of set 1 and would now get refusal 5, since 23 places aren't 39. It gets calls that keep the old default":
-- a signature of set 1 is refused with 5 by rebuild and comparison with 0, and accepted by those that keep the old default, with 0.
abbrev pub SheetOfOne : Type 0
SheetOfOne =
    (key : ℕ) (c : Lent) (o : Outcome) (count back : ℕ) (z1 z2 : List ℤ) (old : List ℕ)
    → response 1 key c ≡ responded o count back z1 z2
    → number_of o ≡ 0
    → length old ≡ dimension
    → Refuses 5 (rebuild 0 c.a (claim z1 z2 c.list) old) old
    × (number_of (comparison 0 c.list c.list) ≡ 5)
    × Fills (rebuild_default_one 0 c.a (claim z1 z2 c.list) old) (committed I c.a c.y1 c.y2)
    × (number_of (comparison_default_one 0 c.list c.list) ≡ 0)
