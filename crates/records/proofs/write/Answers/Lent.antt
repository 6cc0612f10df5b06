-- Demand 2 over the writer's own contract: the key number that is lent to it has its four bytes, so that what is written reads back with no premise on it. Assumes
-- nothing.
use mathlib.Core.Path.{◌≡◌, sym}
use Rattle.answers.specs.Outcomes.{number_of}
use Rattle.answers.proofs.Slots.{writer_out}
use Rattle.records.specs.Writer.{offered}
use Rattle.records.proofs.RoundTrip.{ReadsBack, written_reads}
use Rattle.records.proofs.write.Reads as write
use Rattle.records.proofs.write.Lts as lts
use Rattle.records.proofs.write.Tie as tie

-- a call of the writer: its arguments, each within its type
abbrev pub Call : Type 0
Call = lts.Start tie.the-claims write.Pre write.Post tie.handed_clauses

-- whatever the contract admits of such a call, if its number is 0
pub lent_written_reads : (c : Call) (r : _) (s : _)
    → write.Post c.lifetimes (c.args.form, (c.args.set, (c.args.key, (c.args.z1, (c.args.z2, (c.args.list, (c.args.out, tt))))))) r s
    → number_of r ≡ 0
    → ReadsBack c.args.form (offered c.args.set c.args.key c.args.z1.now c.args.z2.now c.args.list.now) (writer_out s).now
lent_written_reads c r s post zero = written_reads _ _ _ r _ c.ranges.key.fits zero (sym post)
