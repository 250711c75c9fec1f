use Rattle.std.proofs.Common.{arith}
use Rattle.legacy_tables.proofs.PackedRuns.{runs_next, runs_over, in_order}
use Rattle.legacy_tables.proofs.tables.pointer_runs.first_out_of_order.Goals as goal

pub returns-then-not-is_in_order : goal.returns-then-not-is_in_order
returns-then-not-is_in_order c = grind (arith, runs_next)

pub loop-place-preserved : goal.loop-place-preserved
loop-place-preserved c = grind (arith, runs_next, in_order)

pub returns : goal.returns
returns c = grind (arith, runs_over)
