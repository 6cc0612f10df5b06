use mathlib.Core.Path.{sym, ◌∙◌}
use Rattle.limits.proofs.Scan.{none_beyond}
use Rattle.limits.proofs.test_entries.Goals as goal

pub returns-then-all_within : goal.returns-then-all_within
returns-then-all_within c =
    let a = c.args in
    none_beyond a.limit a.factor a.start a.x.now (sym c.all_within.ensures ∙ c.if-all_within.true)
