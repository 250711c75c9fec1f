use Rattle.std.proofs.Common.{arith}
use Rattle.legacy_tables.proofs.TableLoops.{fault_steps}
use Rattle.legacy_tables.specs.TableChecks.{table_fault}
use Rattle.legacy_tables.proofs.tables.checks.check_indexes.Goals as goal

pub returns-in_err-check_index : goal.returns-in_err-check_index
unfolding table_fault
returns-in_err-check_index c = grind (arith, fault_steps)

pub returns-in_err-check_index-2 : goal.returns-in_err-check_index-2
unfolding table_fault
returns-in_err-check_index-2 c = grind (arith, fault_steps)

pub returns-in_err-check_index-3 : goal.returns-in_err-check_index-3
unfolding table_fault
returns-in_err-check_index-3 c = grind (arith, fault_steps)

pub returns-in_err-check_index-4 : goal.returns-in_err-check_index-4
unfolding table_fault
returns-in_err-check_index-4 c = grind (arith, fault_steps)

pub returns-in_err-check_index-5 : goal.returns-in_err-check_index-5
unfolding table_fault
returns-in_err-check_index-5 c = grind (arith, fault_steps)

pub returns : goal.returns
unfolding table_fault
returns c = grind arith
