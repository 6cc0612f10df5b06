-- The powers of 49 (01, "Ring arithmetic").
use Rattle.std.specs.Prelude.{◌≡◌, List, ℕ, zero, suc, ◌+◌, ◌*◌, ◌%◌}
use Rattle.laws.specs.Lists.{tabulate}
use Rattle.sets.specs.Numbers.{dimension, modulus}

-- entry 0 is 1, and each later entry is 49 times the one before, modulo q
unfoldable pub power : ℕ → ℕ
power zero = 1
power (suc i) = 49 * power i % modulus

-- the table of the 1,024 powers
unfoldable pub Powers : List ℕ → Type 0
Powers table = table ≡ tabulate power (dimension + dimension)
