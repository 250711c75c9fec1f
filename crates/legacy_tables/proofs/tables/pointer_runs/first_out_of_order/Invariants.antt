use Rattle.std.proofs.Common.{◌≡◌, ◌≤◌, drop}
use Rattle.legacy_tables.specs.PointerRuns.{run_fault, run_fault_from}
use Rattle.legacy_tables.proofs.tables.pointer_runs.first_out_of_order.Given as goal

-- no fault up to here
abbrev pub invariant-loop-place : goal.invariant-loop-place
invariant-loop-place l = record {
  small : l.before ≤ l.limit;
  so_far : run_fault l.limit l.runs ≡ run_fault_from l.place l.before l.limit (drop l.place l.runs);
}
