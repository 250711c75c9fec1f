use Rattle.std.proofs.{Common.arith, lemmas.Grind.common_steps}
use Rattle.legacy_index_files.proofs.index_table.read_narrow.Goals as goal

pub returns : goal.returns
returns c = grind (arith, common_steps)
