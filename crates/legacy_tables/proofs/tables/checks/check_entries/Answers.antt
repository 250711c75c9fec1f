use Rattle.std.proofs.Common.{arith}
use Rattle.legacy_tables.proofs.TableLoops.{entries_steps}
use Rattle.legacy_tables.proofs.tables.checks.check_entries.Goals as goal

pub returns-in_err-check_entry : goal.returns-in_err-check_entry
returns-in_err-check_entry g c = grind (arith, entries_steps)

pub loop-pointer-preserved : goal.loop-pointer-preserved
loop-pointer-preserved g c = grind (arith, entries_steps)

pub returns : goal.returns
returns g c = grind (arith, entries_steps)
