use Rattle.std.proofs.Common.{rules, ltb, refl}
use Rattle.std.proofs.lemmas.Fn.{always_returns_same}
use Rattle.vectors.proofs.Rising.{rises_so}
use Rattle.vectors.proofs.is_rising.Goals as goal

pub returns : goal.returns
returns c = rises_so c.args.list.now c.is_sorted_by.result (c.is_sorted_by.ensures.cases ltb (always_returns_same _ _ _ (λ a r f' k. (search rules, refl))))
