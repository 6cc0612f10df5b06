-- The checker says yes to whatever the response gives out, the writer and the reader included. Assumes nothing.
use mathlib.Core.Path.{◌≡◌, refl, sym, ap, ◌∙◌}
use mathlib.Core.Bool.{true}
use mathlib.Core.List.{List, ◌++◌}
use Prim.Native.Nat.{ℕ, zero}
use lib.IntN.{ℤ, pos}
use lib.ListN.{take, drop, replicate, length-replicate}
use lib.Seq.{take_at}
use Rattle.laws.proofs.Loops.{is_same}
use Rattle.sets.specs.declared.Set.{Set}
use Rattle.sets.specs.Numbers.{dimension, list_limit, kappa_of, set_number_of}
use Rattle.sets.proofs.Alike.{asked_back}
use Rattle.answers.specs.Outcomes.{Outcome, Done, is_done, Filled, filled}
use Rattle.answers.proofs.Calls.{zero_is}
use Rattle.vectors.specs.Places.{proper_list}
use Rattle.vectors.proofs.Rising.{proper_count}
use Rattle.commitment.specs.Commitment.{committed, commitment}
use Rattle.signing.proofs.Numbered.{key_done, unnumbered_of}
use Rattle.checking.specs.Checking.{claim, rebuild}
use Rattle.record_forms.specs.declared.Form.{Form}
use Rattle.record_forms.specs.Forms.{total_of}
use Rattle.records.specs.Signatures.{signature, record_of, refusal_of}
use Rattle.records.specs.Writer.{offered}
use Rattle.records.specs.Reader.{buffers, found, reading_of}
use Rattle.records.proofs.Buffers.{refusal_proper}
use Rattle.records.proofs.Forms.{Sized}
use Rattle.records.proofs.RoundTrip.{written, reads_back, front_back, recorded_back}
use Rattle.records.proofs.Conversions.{converts}
use Rattle.promises.specs.Demands.{Fills}
use Rattle.promises.proofs.Agreement.{given_out_is_accepted, given_out_is_written, same_list}
use Rattle.promises.proofs.Defaults.{same_calls}
use Rattle.agreement.specs.Accepted.{fills, rebuilds, read_rebuilds, blanks, accepted, key_read, SaysYes}

fills_done : {x : Filled} {vector : List ℕ} → Fills x vector → x ≡ filled Done vector
fills_done h = h.1 ∙ ap (λ (p : Outcome). filled p _) (zero_is h.0 h.2)

-- a record that reads as a signature from which the vector is rebuilt
yes : (form : Form) (s : Set) (key : ℕ) (a rec rounded : List ℕ) (z1 z2 : List ℤ) (l : List ℕ) → proper_list s l ≡ true
    → reading_of form rec blanks ≡ found Done (set_number_of s) key (buffers z1 z2 (l ++ drop (kappa_of s) (replicate list_limit 0)))
    → rebuild (set_number_of s) a (claim z1 z2 l) (replicate dimension 0) ≡ filled Done rounded
    → (accepted form a rec rounded ≡ true) × (key_read form rec ≡ key)
unfolding accepted read_rebuilds rebuilds fills key_read
yes form s key a rec rounded z1 z2 l proper reads restores = (
  rw (
    reads,
    asked_back s,
    take_at l (drop (kappa_of s) (replicate list_limit 0)) (kappa_of s) (proper_count s l proper),
    same_list (set_number_of s) s l (asked_back s) proper,
    restores,
    is_same rounded,
  ),
  rw reads,
)

pub says_yes : SaysYes
says_yes form set key c o count number z1 z2 s before out small e zero' known lb room =
    let zeros : List ℕ = replicate dimension zero in
    let vectors = given_out_is_accepted set key c o count number z1 z2 before zeros e zero' lb (length-replicate dimension zero) in
    let same_set : vectors.0 ≡ s = let asked = vectors.1 in cc in
    let commits : Fills (commitment set c.a c.y1 c.y2 before) (committed s c.a c.y1 c.y2) = rw same_set at vectors.2 in
    let restores : Fills (rebuild set c.a (claim z1 z2 c.list) zeros) (committed s c.a c.y1 c.y2) = rw same_set at vectors.3 in
    let writes = given_out_is_written form set key s c o count number z1 z2 out e zero' known room in
    let g = signature s key z1 z2 c.list in
    let after : List ℕ = record_of form g ++ drop (total_of form s) out in
    let own-number : number ≡ key = (unnumbered_of set key c o count number z1 z2 e).1 ∙ key_done o key zero' in
    let back = written form (offered set key z1 z2 c.list) out after Done refl (rw own-number at writes) in
    let own : back.s ≡ s = let asked = back.asked in cc in
    let sized : Sized g = rw own at back.sized in
    let kept : is_done (refusal_of g) ≡ true = rw own at back.kept in
    let front : (f : Form) (old : List ℕ) → take (total_of f s) (record_of f g ++ drop (total_of f s) old) ≡ record_of f g = λ f old. front_back f g sized kept old _ refl in
    let accepts : (f : Form) (old : List ℕ) → (accepted f c.a (take (total_of f s) (record_of f g ++ drop (total_of f s) old)) (committed s c.a c.y1 c.y2) ≡ true)
    × (key_read f (take (total_of f s) (record_of f g ++ drop (total_of f s) old)) ≡ key) =
    λ f old. yes f s key c.a _ (committed s c.a c.y1 c.y2) z1 z2 c.list (refusal_proper g kept)
    (rw (front f old) (reads_back f g sized kept small blanks (length-replicate dimension (pos 0)) (length-replicate dimension (pos 0)) (length-replicate list_limit zero)))
    ((same_calls (set_number_of s) set (asked_back s ∙ sym known)).rebuilds c.a (claim z1 z2 c.list) zeros ∙ fills_done restores) in (
      after,
      commits,
      (Done, writes, refl),
      (accepts form out).0,
      (accepts form out).1,
      λ to room h. (
        record_of to g ++ drop (total_of to s) room,
        (Done, rw (front form out) (converts form to g sized kept small room ∙ recorded_back to g room kept h), refl),
        (accepts to room).0,
        (accepts to room).1,
      ),
    )
