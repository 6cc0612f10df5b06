-- Any two results that a call's contract admits of the same arguments coincide: over the contract's own text, as the check reads it. Assumes nothing.
use mathlib.Core.Path.{◌≡◌, ap}
use mathlib.Core.List.{List}
use Prim.Native.Nat.{ℕ}
use contract.Lifetimes.{Lfts}
use Rattle.answers.specs.Outcomes.{Outcome, Filled, filled}
use Rattle.answers.proofs.Slots.{writer_out, reader_z1, reader_z2, reader_list, convert_out}
use Rattle.records.specs.Reader.{Buffers, Found, found, outcome_of, set_told, key_told}
use Rattle.records.proofs.write.Reads as write
use Rattle.records.proofs.read.Reads as read
use Rattle.records.proofs.convert.Reads as convert

-- what a call leaves behind is all in one value
one_filled : {o o' : Outcome} {l l' : List ℕ} (w : Filled) → filled o l ≡ w → filled o' l' ≡ w → (o ≡ o') × (l ≡ l')
one_filled w p q = (cc, cc)

one_found : {o o' : Outcome} {n n' k k' : ℕ} {b b' : Buffers} (w : Found) → found o n k b ≡ w → found o' n' k' b' ≡ w
    → (o ≡ o') × (n ≡ n') × (k ≡ k') × (b.z1 ≡ b'.z1) × (b.z2 ≡ b'.z2) × (b.list ≡ b'.list)
one_found {b = b} {b' = b'} w p q =
    let same : b ≡ b' = cc in
    (cc, cc, cc, ap (λ (b : Buffers). b.z1) same, ap (λ (b : Buffers). b.z2) same, ap (λ (b : Buffers). b.list) same)

-- the outcome and the output
pub write_determined : (κs : Lfts 4) (a : _) (r r' : _) (s s' : _) → write.Post κs a r s → write.Post κs a r' s'
    → (r ≡ r') × ((writer_out s).now ≡ (writer_out s').now)
write_determined κs a r r' s s' p q = one_filled _ p q

-- the outcome, the set, the key number and the three buffers
pub read_determined : (κs : Lfts 4) (a : _) (r r' : _) (s s' : _) → read.Post κs a r s → read.Post κs a r' s'
    → (outcome_of r ≡ outcome_of r') × (set_told r ≡ set_told r') × (key_told r ≡ key_told r') × ((reader_z1 s).now ≡ (reader_z1 s').now) × ((reader_z2 s).now ≡ (reader_z2 s').now) × ((reader_list s).now ≡ (reader_list s').now)
read_determined κs a r r' s s' p q = one_found _ p q

-- the outcome and the output
pub convert_determined : (κs : Lfts 2) (a : _) (r r' : _) (s s' : _) → convert.Post κs a r s → convert.Post κs a r' s'
    → (r ≡ r') × ((convert_out s).now ≡ (convert_out s').now)
convert_determined κs a r r' s s' p q = one_filled _ p q
