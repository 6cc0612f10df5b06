-- There and back over the conversion's own contract: the record that is lent to it is bytes, with no premise on its entries. Assumes nothing.
use borrow.Author.Rules.{rules}
use mathlib.Core.Path.{◌≡◌, sym}
use Rattle.answers.specs.Outcomes.{number_of}
use Rattle.answers.proofs.Slots.{convert_out}
use Rattle.records.proofs.Owned.{fit_bytes}
use Rattle.records.proofs.Conversions.{ConvertsBack, converted_back}
use Rattle.records.proofs.convert.Reads as convert
use Rattle.records.proofs.convert.Lts as lts
use Rattle.records.proofs.convert.Tie as tie

-- a call of a conversion: its arguments, and that each entry of the lent `&[u8]` fits 8 bits
abbrev pub Call : Type 0
Call = lts.After-shared_slice_known tie.the-claims convert.Pre convert.Post tie.handed_clauses

-- whatever the contract admits of such a call, if its number is 0
pub lent_converted_back : (c : Call) (r : _) (s : _)
    → convert.Post c.lifetimes (c.args.from, (c.args.to, (c.args.rec, (c.args.out, tt)))) r s
    → number_of r ≡ 0
    → ConvertsBack c.args.from c.args.to c.args.rec.now (convert_out s).now
lent_converted_back c r s post zero = converted_back _ _ _ (fit_bytes _ (search rules)) _ r _ zero (sym post)
