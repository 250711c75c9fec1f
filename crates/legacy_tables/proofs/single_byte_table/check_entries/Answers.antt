use Rattle.std.proofs.Common.{arith}
use Rattle.legacy_tables.proofs.TableLoops.{bytes_steps}
use Rattle.legacy_tables.proofs.single_byte_table.check_entries.Goals as goal

pub returns-in_err-check_entry : goal.returns-in_err-check_entry
returns-in_err-check_entry c = grind (arith, bytes_steps)

pub loop-place-preserved : goal.loop-place-preserved
loop-place-preserved c = grind (arith, bytes_steps)

pub returns : goal.returns
returns c = grind (arith, bytes_steps)
