use Rattle.std.proofs.Common.{◌≡◌, true, pos, refl, ap, ◌∙◌}
use lib.ListN.{set as update}
use Rattle.laws.specs.Lists.{every}
use Rattle.vectors.specs.Vectors.{within}
use Rattle.choices.specs.Choices.{zeros}
use Rattle.keys.proofs.Second.{second_within}
use Rattle.response_points.proofs.key_of_one.Goals as goal

-- g, and f
zeros_within : every (within 2) zeros ≡ true
unfolding every
zeros_within = refl

one_within : every (within 5) (update zeros 0 (pos 1)) ≡ true
unfolding every
one_within = refl

pub make_second-requires : goal.make_second-requires
make_second-requires g c = zeros_within

pub respond-requires-clause-s1_small : goal.respond-requires-clause-s1_small
respond-requires-clause-s1_small g c = one_within

pub respond-requires-clause-s2_small : goal.respond-requires-clause-s2_small
respond-requires-clause-s2_small g c = ap (every (within 5)) c.make_second.ensures ∙ second_within zeros zeros_within
