use Rattle.std.proofs.{Common.arith, lemmas.Grind.common_steps}
use Rattle.legacy_tables.proofs.tables.walks.take_pointer.Goals as goal

pub returns-then-is_taken : goal.returns-then-is_taken
returns-then-is_taken g c = grind (arith, common_steps)

pub returns-else-scalar-entries : goal.returns-else-scalar-entries
returns-else-scalar-entries g c = grind (arith, common_steps)
