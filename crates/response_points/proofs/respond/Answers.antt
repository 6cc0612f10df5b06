use Rattle.std.proofs.Common.{◌≡◌, ◌+◌, arith}
use Rattle.vectors.specs.Vectors.{squares}
use Rattle.vectors.proofs.Ranges.{within_at}
use Rattle.vectors.proofs.Sums.{squares_le}
use Rattle.response_points.proofs.respond.Goals as goal

pub overflow_add-squared_length : goal.overflow_add-squared_length
overflow_add-squared_length g c =
    let s1 = c.args.s1.now in
    let s2 = c.args.s2.now in
    let whole : c.squared_length.result + c.squared_length-2.result ≡ squares s1 + squares s2 = cc in
    omega (arith, whole, squares_le 5 s1 (within_at 5 s1 c.requires.s1_small), squares_le 5 s2 (within_at 5 s2 c.requires.s2_small))
