-- Any two results that a section call's contract admits of the same arguments coincide: over the contract's own text, as the check reads it.
-- Assumes nothing.
use mathlib.Core.Path.{◌≡◌}
use mathlib.Core.List.{List}
use Prim.Native.Nat.{ℕ}
use contract.Lifetimes.{Lfts}
use Rattle.answers.proofs.Slots.{section_number, section_place}
use Rattle.record_forms.specs.Sections.{Fetched, fetched}
use Rattle.record_forms.proofs.sections.z1_section.Reads as z1_section_lem
use Rattle.record_forms.proofs.sections.z2_section.Reads as z2_section_lem
use Rattle.record_forms.proofs.sections.list_section.Reads as list_section_lem

-- what a call leaves behind is all in one value
one_fetched : {a a' : ℕ × ℕ} {l l' : List ℕ} {m m' n n' : ℕ} (w : Fetched) → fetched a l m n ≡ w → fetched a' l' m' n' ≡ w
    → (a ≡ a') × (l ≡ l') × (m ≡ m') × (n ≡ n')
one_fetched w p q = (cc, cc, cc, cc)

-- where the part lies, its bytes, the number and the place
pub z1_section_determined : (κs : Lfts 3) (a : _) (r r' : _) (s s' : _) → z1_section_lem.Post κs a r s → z1_section_lem.Post κs a r' s'
    → (r.ref_ptr ≡ r'.ref_ptr) × (r.now ≡ r'.now) × ((section_number s).now ≡ (section_number s').now) × ((section_place s).now ≡ (section_place s').now)
z1_section_determined κs a r r' s s' p q = one_fetched _ p q

pub z2_section_determined : (κs : Lfts 3) (a : _) (r r' : _) (s s' : _) → z2_section_lem.Post κs a r s → z2_section_lem.Post κs a r' s'
    → (r.ref_ptr ≡ r'.ref_ptr) × (r.now ≡ r'.now) × ((section_number s).now ≡ (section_number s').now) × ((section_place s).now ≡ (section_place s').now)
z2_section_determined κs a r r' s s' p q = one_fetched _ p q

pub list_section_determined : (κs : Lfts 3) (a : _) (r r' : _) (s s' : _) → list_section_lem.Post κs a r s → list_section_lem.Post κs a r' s'
    → (r.ref_ptr ≡ r'.ref_ptr) × (r.now ≡ r'.now) × ((section_number s).now ≡ (section_number s').now) × ((section_place s).now ≡ (section_place s').now)
list_section_determined κs a r r' s s' p q = one_fetched _ p q
