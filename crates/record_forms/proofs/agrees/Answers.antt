use Rattle.std.proofs.Common.{refl}
use Rattle.record_forms.proofs.Agreement.{fields_differ, fields_agree}
use Rattle.record_forms.proofs.agrees.Goals as goal

pub returns-then-ne : goal.returns-then-ne
returns-then-ne c = rw (fields_differ c.args.from c.args.to c.args.a.now c.args.b.now c.ne.result c.ne.ensures c.if-ne.true) refl

pub returns : goal.returns
returns c = rw (fields_agree c.args.from c.args.to c.args.a.now c.args.b.now c.ne.result c.ne.ensures c.if-ne.false) refl
