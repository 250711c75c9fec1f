use Rattle.std.proofs.{Common.arith, lemmas.Grind.common_steps}
use Rattle.legacy_index_files.proofs.index_table.check_lines.Goals as goal

pub loop-rest-preserved-in-Skipped : goal.loop-rest-preserved-in-Skipped
loop-rest-preserved-in-Skipped c = grind (arith, common_steps)

pub loop-rest-preserved : goal.loop-rest-preserved
loop-rest-preserved c = grind (arith, common_steps)

pub returns-in-Malformed-clause-sound : goal.returns-in-Malformed-clause-sound
returns-in-Malformed-clause-sound c = grind (arith, common_steps)

pub returns-clause-sound : goal.returns-clause-sound
returns-clause-sound c = grind (arith, common_steps)

pub returns-clause-length : goal.returns-clause-length
returns-clause-length c = grind (arith, common_steps)
