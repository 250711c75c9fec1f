use Rattle.std.proofs.{Common.{◌≡◌, arith}, lemmas.Grind.common_steps}
use Rattle.legacy_tables.specs.Packed.{takes_last}
use Rattle.legacy_tables.proofs.tables.walks.is_taken.Goals as goal

pub returns-then-free : goal.returns-then-free
returns-then-free c = grind (arith, common_steps)

pub returns-else-free : goal.returns-else-free
returns-else-free c =
    let last : c.takes_last_of.result ≡ takes_last c.args.part c.args.scalar = c.takes_last_of.ensures in grind (arith, common_steps)
