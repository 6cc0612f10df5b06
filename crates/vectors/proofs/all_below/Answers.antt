use Rattle.std.proofs.Common.{◌≡◌, true, ◌&&◌, ◌∙◌, fold, arith}
use Rattle.std.proofs.lemmas.Grind.{common_steps}
use Rattle.vectors.specs.Vectors.{below}
use Rattle.vectors.proofs.Tests.{every_is_fold}
use Rattle.vectors.proofs.all_below.Goals as goal

pub returns : goal.returns
returns c =
    let h : c.fold.result ≡ fold (λ all x. all && below c.args.bound x) true c.args.a.now = grind (arith, common_steps) in
    h ∙ every_is_fold (below c.args.bound) c.args.a.now
