-- Any two results that an export's contract admits of the same arguments coincide: over the contract's own text, as the check reads it. Assumes nothing.
use mathlib.Core.Path.{◌≡◌, sym, ◌∙◌}
use mathlib.Core.List.{List}
use Prim.Native.Nat.{ℕ}
use contract.Lifetimes.{Lfts}
use lib.IntN.{ℤ}
use Rattle.answers.proofs.Slots.{commitment_out, with_rests_out, with_rests_rests, response_z1, response_z2, rebuild_out, write_out, read_z1, read_z2, read_list, conversion_out, section_number, section_place}
use Rattle.bursztok.specs.declared.Answer.{Answer}
use Rattle.bursztok.specs.declared.Response.{Response}
use Rattle.bursztok.specs.declared.Reading.{Reading}
use Rattle.bursztok.specs.declared.Part.{Part}
use Rattle.bursztok.specs.Exports.{Left, left, LeftWithRests, left_with_rests, Replied, replied, Stored, stored, Located, located}
use Rattle.bursztok.proofs.bursztok_key_test.Reads as key_test
use Rattle.bursztok.proofs.bursztok_commitment.Reads as commitment
use Rattle.bursztok.proofs.bursztok_commitment_with_rests.Reads as with_rests
use Rattle.bursztok.proofs.bursztok_respond.Reads as respond
use Rattle.bursztok.proofs.bursztok_rebuild.Reads as rebuild
use Rattle.bursztok.proofs.bursztok_compare.Reads as compare
use Rattle.bursztok.proofs.bursztok_rebuild_default_one.Reads as rebuild_default_one
use Rattle.bursztok.proofs.bursztok_compare_default_one.Reads as compare_default_one
use Rattle.bursztok.proofs.bursztok_write.Reads as write
use Rattle.bursztok.proofs.bursztok_read.Reads as read
use Rattle.bursztok.proofs.bursztok_write_packed.Reads as write_packed
use Rattle.bursztok.proofs.bursztok_read_packed.Reads as read_packed
use Rattle.bursztok.proofs.bursztok_pack.Reads as pack
use Rattle.bursztok.proofs.bursztok_unpack.Reads as unpack
use Rattle.bursztok.proofs.bursztok_z1_section.Reads as z1_section
use Rattle.bursztok.proofs.bursztok_z2_section.Reads as z2_section
use Rattle.bursztok.proofs.bursztok_list_section.Reads as list_section
use Rattle.bursztok.proofs.bursztok_kappa.Reads as kappa
use Rattle.bursztok.proofs.bursztok_record_bytes.Reads as record_bytes
use Rattle.bursztok.proofs.bursztok_packed_bytes.Reads as packed_bytes

-- what an export leaves behind is all in one value
one_left : {r r' : Answer} {l l' : List ℕ} (w : Left) → left r l ≡ w → left r' l' ≡ w → (r ≡ r') × (l ≡ l')
one_left w p q = (cc, cc)

one_with_rests : {r r' : Answer} {x x' : List ℕ} {y y' : List ℤ} (w : LeftWithRests) → left_with_rests r x y ≡ w → left_with_rests r' x' y' ≡ w
    → (r ≡ r') × (x ≡ x') × (y ≡ y')
one_with_rests w p q = (cc, cc, cc)

one_replied : {r r' : Response} {x x' y y' : List ℤ} (w : Replied) → replied r x y ≡ w → replied r' x' y' ≡ w → (r ≡ r') × (x ≡ x') × (y ≡ y')
one_replied w p q = (cc, cc, cc)

one_stored : {r r' : Reading} {x x' y y' : List ℤ} {l l' : List ℕ} (w : Stored) → stored r x y l ≡ w → stored r' x' y' l' ≡ w
    → (r ≡ r') × (x ≡ x') × (y ≡ y') × (l ≡ l')
one_stored w p q = (cc, cc, cc, cc)

one_located : {r r' : Part} {n n' m m' : ℕ} (w : Located) → located r n m ≡ w → located r' n' m' ≡ w → (r ≡ r') × (n ≡ n') × (m ≡ m')
one_located w p q = (cc, cc, cc)

pub key_test_determined : (κs : Lfts 3) (a : _) (r r' : _) (s s' : _) → key_test.Post κs a r s → key_test.Post κs a r' s' → r ≡ r'
key_test_determined κs a r r' s s' p q = p ∙ sym q

-- the answer and the output vector
pub commitment_determined : (κs : Lfts 4) (a : _) (r r' : _) (s s' : _) → commitment.Post κs a r s → commitment.Post κs a r' s'
    → (r ≡ r') × ((commitment_out s).now ≡ (commitment_out s').now)
commitment_determined κs a r r' s s' p q = one_left _ p q

-- the answer, and both output vectors
pub commitment_with_rests_determined : (κs : Lfts 5) (a : _) (r r' : _) (s s' : _) → with_rests.Post κs a r s → with_rests.Post κs a r' s'
    → (r ≡ r') × ((with_rests_out s).now ≡ (with_rests_out s').now) × ((with_rests_rests s).now ≡ (with_rests_rests s').now)
commitment_with_rests_determined κs a r r' s s' p q = one_with_rests _ p q

-- the answer with the count of words and the key number, and both output vectors
pub respond_determined : (κs : Lfts 10) (a : _) (r r' : _) (s s' : _) → respond.Post κs a r s → respond.Post κs a r' s'
    → (r ≡ r') × ((response_z1 s).now ≡ (response_z1 s').now) × ((response_z2 s).now ≡ (response_z2 s').now)
respond_determined κs a r r' s s' p q = one_replied _ p q

pub rebuild_determined : (κs : Lfts 5) (a : _) (r r' : _) (s s' : _) → rebuild.Post κs a r s → rebuild.Post κs a r' s'
    → (r ≡ r') × ((rebuild_out s).now ≡ (rebuild_out s').now)
rebuild_determined κs a r r' s s' p q = one_left _ p q

pub compare_determined : (κs : Lfts 2) (a : _) (r r' : _) (s s' : _) → compare.Post κs a r s → compare.Post κs a r' s' → r ≡ r'
compare_determined κs a r r' s s' p q = p ∙ sym q

pub rebuild_default_one_determined : (κs : Lfts 5) (a : _) (r r' : _) (s s' : _) → rebuild_default_one.Post κs a r s → rebuild_default_one.Post κs a r' s'
    → (r ≡ r') × ((rebuild_out s).now ≡ (rebuild_out s').now)
rebuild_default_one_determined κs a r r' s s' p q = one_left _ p q

pub compare_default_one_determined : (κs : Lfts 2) (a : _) (r r' : _) (s s' : _) → compare_default_one.Post κs a r s → compare_default_one.Post κs a r' s' → r ≡ r'
compare_default_one_determined κs a r r' s s' p q = p ∙ sym q

-- the answer and the output
pub write_determined : (κs : Lfts 4) (a : _) (r r' : _) (s s' : _) → write.Post κs a r s → write.Post κs a r' s'
    → (r ≡ r') × ((write_out s).now ≡ (write_out s').now)
write_determined κs a r r' s s' p q = one_left _ p q

-- the answer with the set and the key number, and the three buffers
pub read_determined : (κs : Lfts 4) (a : _) (r r' : _) (s s' : _) → read.Post κs a r s → read.Post κs a r' s'
    → (r ≡ r') × ((read_z1 s).now ≡ (read_z1 s').now) × ((read_z2 s).now ≡ (read_z2 s').now) × ((read_list s).now ≡ (read_list s').now)
read_determined κs a r r' s s' p q = one_stored _ p q

pub write_packed_determined : (κs : Lfts 4) (a : _) (r r' : _) (s s' : _) → write_packed.Post κs a r s → write_packed.Post κs a r' s'
    → (r ≡ r') × ((write_out s).now ≡ (write_out s').now)
write_packed_determined κs a r r' s s' p q = one_left _ p q

pub read_packed_determined : (κs : Lfts 4) (a : _) (r r' : _) (s s' : _) → read_packed.Post κs a r s → read_packed.Post κs a r' s'
    → (r ≡ r') × ((read_z1 s).now ≡ (read_z1 s').now) × ((read_z2 s).now ≡ (read_z2 s').now) × ((read_list s).now ≡ (read_list s').now)
read_packed_determined κs a r r' s s' p q = one_stored _ p q

-- the answer and the output
pub pack_determined : (κs : Lfts 2) (a : _) (r r' : _) (s s' : _) → pack.Post κs a r s → pack.Post κs a r' s'
    → (r ≡ r') × ((conversion_out s).now ≡ (conversion_out s').now)
pack_determined κs a r r' s s' p q = one_left _ p q

pub unpack_determined : (κs : Lfts 2) (a : _) (r r' : _) (s s' : _) → unpack.Post κs a r s → unpack.Post κs a r' s'
    → (r ≡ r') × ((conversion_out s).now ≡ (conversion_out s').now)
unpack_determined κs a r r' s s' p q = one_left _ p q

-- the part, the number and the place
pub z1_section_determined : (κs : Lfts 3) (a : _) (r r' : _) (s s' : _) → z1_section.Post κs a r s → z1_section.Post κs a r' s'
    → (r ≡ r') × ((section_number s).now ≡ (section_number s').now) × ((section_place s).now ≡ (section_place s').now)
z1_section_determined κs a r r' s s' p q = one_located _ p q

pub z2_section_determined : (κs : Lfts 3) (a : _) (r r' : _) (s s' : _) → z2_section.Post κs a r s → z2_section.Post κs a r' s'
    → (r ≡ r') × ((section_number s).now ≡ (section_number s').now) × ((section_place s).now ≡ (section_place s').now)
z2_section_determined κs a r r' s s' p q = one_located _ p q

pub list_section_determined : (κs : Lfts 3) (a : _) (r r' : _) (s s' : _) → list_section.Post κs a r s → list_section.Post κs a r' s'
    → (r ≡ r') × ((section_number s).now ≡ (section_number s').now) × ((section_place s).now ≡ (section_place s').now)
list_section_determined κs a r r' s s' p q = one_located _ p q

pub kappa_determined : (κs : Lfts 0) (a : _) (r r' : _) (s s' : _) → kappa.Post κs a r s → kappa.Post κs a r' s' → r ≡ r'
kappa_determined κs a r r' s s' p q = p ∙ sym q

pub record_bytes_determined : (κs : Lfts 0) (a : _) (r r' : _) (s s' : _) → record_bytes.Post κs a r s → record_bytes.Post κs a r' s' → r ≡ r'
record_bytes_determined κs a r r' s s' p q = p ∙ sym q

pub packed_bytes_determined : (κs : Lfts 0) (a : _) (r r' : _) (s s' : _) → packed_bytes.Post κs a r s → packed_bytes.Post κs a r' s' → r ≡ r'
packed_bytes_determined κs a r r' s s' p q = p ∙ sym q
