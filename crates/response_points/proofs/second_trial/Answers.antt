use Rattle.std.proofs.Common.{◌≤◌, List, ℤ, arith}
use Rattle.vectors.specs.Vectors.{sizes}
use Rattle.vectors.proofs.Lengths.{sizes_le_times}
use Rattle.choices.specs.Choices.{zeros}
use Rattle.choices.proofs.Sums.{within_zeros}
use Rattle.response_points.proofs.second_trial.Goals as goal

-- masks that are zero add nothing
nothing : (v : List ℤ) → sizes zeros v ≤ 0
nothing v = omega (arith, sizes_le_times 0 zeros v (within_zeros 0).first)

pub second_trial-requires-clause-squared_value : goal.second_trial-requires-clause-squared_value
second_trial-requires-clause-squared_value c =
    let a = c.args in
    (c.requires.value, omega (arith, nothing a.v1.now, nothing a.v2.now, c.requires.small))
