use Rattle.std.proofs.Common.{◌∙◌, sym}
use Rattle.limits.proofs.Scan.{found_beyond, none_found}
use Rattle.limits.proofs.first_beyond.Goals as goal

pub returns-in-Some : goal.returns-in-Some
returns-in-Some c =
    let a = c.args in
    found_beyond a.limit a.factor a.start a.x.now c.in-Some.i (sym c.place_beyond.ensures ∙ c.in-Some.is)

pub returns-in-None : goal.returns-in-None
returns-in-None c =
    let a = c.args in
    none_found a.limit a.factor a.start a.x.now (sym c.place_beyond.ensures ∙ c.in-None.is)
