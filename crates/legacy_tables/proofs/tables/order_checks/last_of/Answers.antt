use Rattle.std.proofs.{Common.arith, lemmas.Grind.common_steps}
use Rattle.legacy_tables.proofs.tables.order_checks.last_of.Goals as goal

pub returns-in-9552 : goal.returns-in-9552
returns-in-9552 c = grind (arith, common_steps)
