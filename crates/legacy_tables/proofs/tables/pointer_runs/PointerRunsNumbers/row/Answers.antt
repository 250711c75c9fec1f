use Rattle.std.proofs.Common.{arith}
use Rattle.legacy_tables.proofs.RunWalks.{next_row}
use Rattle.legacy_tables.proofs.tables.pointer_runs.PointerRunsNumbers.row.Goals as goal

pub returns : goal.returns
returns g c = grind (arith, next_row)
