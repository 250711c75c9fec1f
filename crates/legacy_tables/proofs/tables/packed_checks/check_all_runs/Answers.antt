use Rattle.std.proofs.Common.{arith}
use Rattle.legacy_tables.proofs.TableLoops.{fault_steps}
use Rattle.legacy_tables.specs.Packed.{all_runs_fault}
use Rattle.legacy_tables.proofs.tables.packed_checks.check_all_runs.Goals as goal

pub returns-in_err-check_runs : goal.returns-in_err-check_runs
unfolding all_runs_fault
returns-in_err-check_runs c = grind (arith, fault_steps)

pub returns-in_err-check_runs-2 : goal.returns-in_err-check_runs-2
unfolding all_runs_fault
returns-in_err-check_runs-2 c = grind (arith, fault_steps)

pub returns-in_err-check_runs-3 : goal.returns-in_err-check_runs-3
unfolding all_runs_fault
returns-in_err-check_runs-3 c = grind (arith, fault_steps)

pub returns-in_err-check_runs-4 : goal.returns-in_err-check_runs-4
unfolding all_runs_fault
returns-in_err-check_runs-4 c = grind (arith, fault_steps)

pub returns : goal.returns
unfolding all_runs_fault
returns c = grind arith
