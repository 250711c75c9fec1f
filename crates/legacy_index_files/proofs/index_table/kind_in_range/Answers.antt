use Rattle.std.proofs.{Common.arith, lemmas.Grind.common_steps}
use Rattle.legacy_index_files.proofs.index_table.kind_in_range.Goals as goal

pub returns-then-value-value_limit-clause-says : goal.returns-then-value-value_limit-clause-says
returns-then-value-value_limit-clause-says c = grind (arith, common_steps)
