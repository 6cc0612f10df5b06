-- Demand 2 over the reader's own contract: the record that is lent to it is bytes, so that a record that reads is the one that the writer makes of it, with
-- no premise on its entries. Assumes nothing.
use borrow.Author.Rules.{rules}
use mathlib.Core.Path.{◌≡◌, sym}
use mathlib.Core.Bool.{true}
use Rattle.laws.specs.Lists.{every}
use Rattle.answers.specs.Outcomes.{number_of}
use Rattle.answers.proofs.Slots.{reader_z1, reader_z2, reader_list}
use Rattle.byte_codes.specs.Bytes.{is_byte}
use Rattle.records.specs.Writer.{offered}
use Rattle.records.specs.Reader.{outcome_of, set_told, key_told}
use Rattle.records.proofs.Owned.{fit_bytes}
use Rattle.records.proofs.RoundTrip.{WritesBack, read_writes}
use Rattle.records.proofs.read.Reads as read
use Rattle.records.proofs.read.Lts as lts
use Rattle.records.proofs.read.Tie as tie

-- a call of the reader: its arguments, and what the check reads off the lent `&[u8]` where the body begins, that each entry fits 8 bits (`Owned` has that
-- from the ownership alone)
abbrev pub Call : Type 0
Call = lts.After-shared_slice_known tie.the-claims read.Pre read.Post tie.handed_clauses

pub lent_bytes : (c : Call) → every is_byte c.args.rec.now ≡ true
lent_bytes c = fit_bytes c.args.rec.now (search rules)

-- whatever the contract admits of such a call, if its number is 0
pub lent_read_writes : (c : Call) (r : _) (s : _)
    → read.Post c.lifetimes (c.args.form, (c.args.rec, (c.args.z1, (c.args.z2, (c.args.list, tt))))) r s
    → number_of (outcome_of r) ≡ 0
    → WritesBack c.args.form c.args.rec.now (offered (set_told r) (key_told r) (reader_z1 s).now (reader_z2 s).now (reader_list s).now)
lent_read_writes c r s post zero = read_writes _ _ (lent_bytes c) _ _ _ _ _ zero (sym post)
