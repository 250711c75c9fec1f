use Rattle.std.proofs.{Common.arith, lemmas.Grind.common_steps}
use Rattle.legacy_tables.proofs.single_byte_table.check_entry.Goals as goal

pub returns : goal.returns
returns c = grind (arith, common_steps)
