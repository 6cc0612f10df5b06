-- "That any two results it admits coincide is proved" (01, "What a contract here has to say"): for each call, over its contract's own text, as the check
-- reads it. `Post κs a r s` says what the contract admits of arguments `a`: the answer `r`, and `s` for what is lent, when the call is over. Assumes nothing.
use mathlib.Core.Path.{◌≡◌, sym, ◌∙◌}
use mathlib.Core.List.{List}
use Prim.Native.Nat.{ℕ}
use contract.Lifetimes.{Lfts}
use lib.IntN.{ℤ}
use Rattle.answers.specs.Outcomes.{Outcome, Filled, filled}
use Rattle.answers.proofs.Slots.{commitment_out, with_rests_out, with_rests_rests, response_z1, response_z2, rebuild_out}
use Rattle.signing.specs.Response.{Responded, responded}
use Rattle.keys.proofs.key_test.Reads as key_test
use Rattle.commitment.specs.Commitment.{WithRests, with_rests}
use Rattle.commitment.proofs.commitment.Reads as commitment
use Rattle.commitment.proofs.commitment_with_rests.Reads as with-rests
use Rattle.signing.proofs.respond.Reads as respond
use Rattle.checking.proofs.rebuild.Reads as rebuild
use Rattle.checking.proofs.comparison.Reads as comparison
use Rattle.checking.proofs.rebuild_default_one.Reads as rebuild-default-one
use Rattle.checking.proofs.comparison_default_one.Reads as comparison-default-one

-- one equation fixes the outcome and the vector
filled_parts : {o o' : Outcome} {c c' : List ℕ} (answer : Filled) → filled o c ≡ answer → filled o' c' ≡ answer → (o ≡ o') × (c ≡ c')
filled_parts answer p q = (cc, cc)

-- one equation fixes the outcome and both vectors
pub with_rests_parts : {o o' : Outcome} {x x' : List ℕ} {y y' : List ℤ} (answer : WithRests) → with_rests o x y ≡ answer → with_rests o' x' y' ≡ answer
    → (o ≡ o') × (x ≡ x') × (y ≡ y')
with_rests_parts answer p q = (cc, cc, cc)

-- one equation fixes the outcome, the count, the key number and both vectors
responded_parts : {o o' : Outcome} {n n' k k' : ℕ} {x x' y y' : List ℤ} (answer : Responded) → responded o n k x y ≡ answer → responded o' n' k' x' y' ≡ answer
    → (o ≡ o') × (n ≡ n') × (k ≡ k') × (x ≡ x') × (y ≡ y')
responded_parts answer p q = (cc, cc, cc, cc, cc)

pub key_test_determined : (κs : Lfts 3) (a : _) (r r' : _) (s s' : _) → key_test.Post κs a r s → key_test.Post κs a r' s' → r ≡ r'
key_test_determined κs a r r' s s' p q = p ∙ sym q

pub commitment_determined : (κs : Lfts 4) (a : _) (r r' : _) (s s' : _) → commitment.Post κs a r s → commitment.Post κs a r' s'
    → (r ≡ r') × ((commitment_out s).now ≡ (commitment_out s').now)
commitment_determined κs a r r' s s' p q = filled_parts _ p q

pub commitment_with_rests_determined : (κs : Lfts 5) (a : _) (r r' : _) (s s' : _) → with-rests.Post κs a r s → with-rests.Post κs a r' s'
    → (r ≡ r') × ((with_rests_out s).now ≡ (with_rests_out s').now) × ((with_rests_rests s).now ≡ (with_rests_rests s').now)
commitment_with_rests_determined κs a r r' s s' p q = with_rests_parts _ p q

pub response_determined : (κs : Lfts 10) (a : _) (r r' : _) (s s' : _) → respond.Post κs a r s → respond.Post κs a r' s'
    → (r.outcome ≡ r'.outcome) × (r.words ≡ r'.words) × (r.key ≡ r'.key)
    × ((response_z1 s).now ≡ (response_z1 s').now)
    × ((response_z2 s).now ≡ (response_z2 s').now)
response_determined κs a r r' s s' p q = responded_parts _ p q

pub rebuild_determined : (κs : Lfts 5) (a : _) (r r' : _) (s s' : _) → rebuild.Post κs a r s → rebuild.Post κs a r' s'
    → (r ≡ r') × ((rebuild_out s).now ≡ (rebuild_out s').now)
rebuild_determined κs a r r' s s' p q = filled_parts _ p q

pub comparison_determined : (κs : Lfts 2) (a : _) (r r' : _) (s s' : _) → comparison.Post κs a r s → comparison.Post κs a r' s' → r ≡ r'
comparison_determined κs a r r' s s' p q = p ∙ sym q

pub rebuild_default_one_determined : (κs : Lfts 5) (a : _) (r r' : _) (s s' : _) → rebuild-default-one.Post κs a r s → rebuild-default-one.Post κs a r' s'
    → (r ≡ r') × ((rebuild_out s).now ≡ (rebuild_out s').now)
rebuild_default_one_determined κs a r r' s s' p q = filled_parts _ p q

pub comparison_default_one_determined : (κs : Lfts 2) (a : _) (r r' : _) (s s' : _) → comparison-default-one.Post κs a r s → comparison-default-one.Post κs a r' s' → r ≡ r'
comparison_default_one_determined κs a r r' s s' p q = p ∙ sym q
