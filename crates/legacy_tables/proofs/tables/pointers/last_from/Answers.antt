use Rattle.std.proofs.Common.{arith}
use Rattle.legacy_tables.proofs.Pointers.{last-from, none-from}
use Rattle.legacy_tables.proofs.tables.pointers.last_from.Goals as goal

pub returns-then-number-entry : goal.returns-then-number-entry
returns-then-number-entry g c = grind (arith, last-from)

pub returns : goal.returns
returns g c = grind (arith, none-from)
