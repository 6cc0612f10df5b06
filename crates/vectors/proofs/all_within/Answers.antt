use Rattle.std.proofs.Common.{◌≡◌, true, ◌&&◌, ◌∙◌, fold, arith}
use Rattle.std.proofs.lemmas.Grind.{common_steps}
use Rattle.vectors.specs.Vectors.{within}
use Rattle.vectors.proofs.Tests.{every_is_fold}
use Rattle.vectors.proofs.all_within.Goals as goal

pub returns : goal.returns
returns c =
    let h : c.fold.result ≡ fold (λ all x. all && within c.args.bound x) true c.args.x.now = grind (arith, common_steps) in
    h ∙ every_is_fold (within c.args.bound) c.args.x.now
