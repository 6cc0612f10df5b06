use borrow.Author.Tests.{eq-eqb, ne_eqb}
use Rattle.keys.proofs.key_test_of.Goals as goal

pub returns-in_default-try_into-2 : goal.returns-in_default-try_into-2
returns-in_default-try_into-2 c =
    rw (eq-eqb _ _ c.in-Ok.ensures.1.long, eq-eqb _ _ c.in-Ok-try_into.ensures.1.long, ne_eqb _ _ c.in_default-try_into-2.ensures.1)
