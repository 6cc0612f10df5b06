-- Any two results that an export's contract admits of the same arguments coincide: over the contract's own text, as the check reads it. The clauses are those of
-- the functions of `bursztok`, of which the same is proved there. Assumes nothing.
use mathlib.Core.Path.{◌≡◌}
use contract.Lifetimes.{Lfts}
use Rattle.answers.proofs.Slots.{commitment_out, with_rests_out, with_rests_rests, response_z1, response_z2, rebuild_out, write_out, read_z1, read_z2, read_list, conversion_out, section_number, section_place}
use Rattle.bursztok_c.proofs.bursztok_key_test.Reads as key_test
use Rattle.bursztok_c.proofs.bursztok_commitment.Reads as commitment
use Rattle.bursztok_c.proofs.bursztok_commitment_with_rests.Reads as with_rests
use Rattle.bursztok_c.proofs.bursztok_respond.Reads as respond
use Rattle.bursztok_c.proofs.bursztok_rebuild.Reads as rebuild
use Rattle.bursztok_c.proofs.bursztok_compare.Reads as compare
use Rattle.bursztok_c.proofs.bursztok_rebuild_default_one.Reads as rebuild_default_one
use Rattle.bursztok_c.proofs.bursztok_compare_default_one.Reads as compare_default_one
use Rattle.bursztok_c.proofs.bursztok_write.Reads as write
use Rattle.bursztok_c.proofs.bursztok_read.Reads as read
use Rattle.bursztok_c.proofs.bursztok_write_packed.Reads as write_packed
use Rattle.bursztok_c.proofs.bursztok_read_packed.Reads as read_packed
use Rattle.bursztok_c.proofs.bursztok_pack.Reads as pack
use Rattle.bursztok_c.proofs.bursztok_unpack.Reads as unpack
use Rattle.bursztok_c.proofs.bursztok_z1_section.Reads as z1_section
use Rattle.bursztok_c.proofs.bursztok_z2_section.Reads as z2_section
use Rattle.bursztok_c.proofs.bursztok_list_section.Reads as list_section
use Rattle.bursztok_c.proofs.bursztok_kappa.Reads as kappa
use Rattle.bursztok_c.proofs.bursztok_record_bytes.Reads as record_bytes
use Rattle.bursztok_c.proofs.bursztok_packed_bytes.Reads as packed_bytes
use Rattle.bursztok.proofs.Determined as proved

pub key_test_determined : (κs : Lfts 3) (a : _) (r r' : _) (s s' : _) → key_test.Post κs a r s → key_test.Post κs a r' s' → r ≡ r'
key_test_determined = proved.key_test_determined

-- the answer and the output vector
pub commitment_determined : (κs : Lfts 4) (a : _) (r r' : _) (s s' : _) → commitment.Post κs a r s → commitment.Post κs a r' s'
    → (r ≡ r') × ((commitment_out s).now ≡ (commitment_out s').now)
commitment_determined = proved.commitment_determined

-- the answer, and both output vectors
pub commitment_with_rests_determined : (κs : Lfts 5) (a : _) (r r' : _) (s s' : _) → with_rests.Post κs a r s → with_rests.Post κs a r' s'
    → (r ≡ r') × ((with_rests_out s).now ≡ (with_rests_out s').now) × ((with_rests_rests s).now ≡ (with_rests_rests s').now)
commitment_with_rests_determined = proved.commitment_with_rests_determined

-- the answer with the count of words and the key number, and both output vectors
pub respond_determined : (κs : Lfts 10) (a : _) (r r' : _) (s s' : _) → respond.Post κs a r s → respond.Post κs a r' s'
    → (r ≡ r') × ((response_z1 s).now ≡ (response_z1 s').now) × ((response_z2 s).now ≡ (response_z2 s').now)
respond_determined = proved.respond_determined

pub rebuild_determined : (κs : Lfts 5) (a : _) (r r' : _) (s s' : _) → rebuild.Post κs a r s → rebuild.Post κs a r' s'
    → (r ≡ r') × ((rebuild_out s).now ≡ (rebuild_out s').now)
rebuild_determined = proved.rebuild_determined

pub compare_determined : (κs : Lfts 2) (a : _) (r r' : _) (s s' : _) → compare.Post κs a r s → compare.Post κs a r' s' → r ≡ r'
compare_determined = proved.compare_determined

pub rebuild_default_one_determined : (κs : Lfts 5) (a : _) (r r' : _) (s s' : _) → rebuild_default_one.Post κs a r s → rebuild_default_one.Post κs a r' s'
    → (r ≡ r') × ((rebuild_out s).now ≡ (rebuild_out s').now)
rebuild_default_one_determined = proved.rebuild_default_one_determined

pub compare_default_one_determined : (κs : Lfts 2) (a : _) (r r' : _) (s s' : _) → compare_default_one.Post κs a r s → compare_default_one.Post κs a r' s' → r ≡ r'
compare_default_one_determined = proved.compare_default_one_determined

-- the answer and the output
pub write_determined : (κs : Lfts 4) (a : _) (r r' : _) (s s' : _) → write.Post κs a r s → write.Post κs a r' s'
    → (r ≡ r') × ((write_out s).now ≡ (write_out s').now)
write_determined = proved.write_determined

-- the answer with the set and the key number, and the three buffers
pub read_determined : (κs : Lfts 4) (a : _) (r r' : _) (s s' : _) → read.Post κs a r s → read.Post κs a r' s'
    → (r ≡ r') × ((read_z1 s).now ≡ (read_z1 s').now) × ((read_z2 s).now ≡ (read_z2 s').now) × ((read_list s).now ≡ (read_list s').now)
read_determined = proved.read_determined

pub write_packed_determined : (κs : Lfts 4) (a : _) (r r' : _) (s s' : _) → write_packed.Post κs a r s → write_packed.Post κs a r' s'
    → (r ≡ r') × ((write_out s).now ≡ (write_out s').now)
write_packed_determined = proved.write_packed_determined

pub read_packed_determined : (κs : Lfts 4) (a : _) (r r' : _) (s s' : _) → read_packed.Post κs a r s → read_packed.Post κs a r' s'
    → (r ≡ r') × ((read_z1 s).now ≡ (read_z1 s').now) × ((read_z2 s).now ≡ (read_z2 s').now) × ((read_list s).now ≡ (read_list s').now)
read_packed_determined = proved.read_packed_determined

-- the answer and the output
pub pack_determined : (κs : Lfts 2) (a : _) (r r' : _) (s s' : _) → pack.Post κs a r s → pack.Post κs a r' s'
    → (r ≡ r') × ((conversion_out s).now ≡ (conversion_out s').now)
pack_determined = proved.pack_determined

pub unpack_determined : (κs : Lfts 2) (a : _) (r r' : _) (s s' : _) → unpack.Post κs a r s → unpack.Post κs a r' s'
    → (r ≡ r') × ((conversion_out s).now ≡ (conversion_out s').now)
unpack_determined = proved.unpack_determined

-- the part, the number and the place
pub z1_section_determined : (κs : Lfts 3) (a : _) (r r' : _) (s s' : _) → z1_section.Post κs a r s → z1_section.Post κs a r' s'
    → (r ≡ r') × ((section_number s).now ≡ (section_number s').now) × ((section_place s).now ≡ (section_place s').now)
z1_section_determined = proved.z1_section_determined

pub z2_section_determined : (κs : Lfts 3) (a : _) (r r' : _) (s s' : _) → z2_section.Post κs a r s → z2_section.Post κs a r' s'
    → (r ≡ r') × ((section_number s).now ≡ (section_number s').now) × ((section_place s).now ≡ (section_place s').now)
z2_section_determined = proved.z2_section_determined

pub list_section_determined : (κs : Lfts 3) (a : _) (r r' : _) (s s' : _) → list_section.Post κs a r s → list_section.Post κs a r' s'
    → (r ≡ r') × ((section_number s).now ≡ (section_number s').now) × ((section_place s).now ≡ (section_place s').now)
list_section_determined = proved.list_section_determined

pub kappa_determined : (κs : Lfts 0) (a : _) (r r' : _) (s s' : _) → kappa.Post κs a r s → kappa.Post κs a r' s' → r ≡ r'
kappa_determined = proved.kappa_determined

pub record_bytes_determined : (κs : Lfts 0) (a : _) (r r' : _) (s s' : _) → record_bytes.Post κs a r s → record_bytes.Post κs a r' s' → r ≡ r'
record_bytes_determined = proved.record_bytes_determined

pub packed_bytes_determined : (κs : Lfts 0) (a : _) (r r' : _) (s s' : _) → packed_bytes.Post κs a r s → packed_bytes.Post κs a r' s' → r ≡ r'
packed_bytes_determined = proved.packed_bytes_determined
