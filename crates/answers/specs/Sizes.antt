-- What the number of a set says of its lists, for a caller that holds no table of the sets (01, "Parameters").
use Rattle.std.specs.Prelude.{ℕ}
use Rattle.sets.specs.Numbers.{kappa_of, asked_of}
use Rattle.answers.specs.Outcomes.{for_set}

-- kappa of the set that a number stands for on a call, 0 where it stands for none
abbrev pub kappa_asked : ℕ → ℕ
kappa_asked x = for_set (asked_of x) 0 kappa_of
