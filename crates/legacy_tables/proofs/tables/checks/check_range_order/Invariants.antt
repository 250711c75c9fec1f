use Rattle.std.proofs.Common.{◌≡◌, None, drop}
use Rattle.legacy_tables.specs.TableChecks.{range_order_fault}
use Rattle.legacy_tables.proofs.tables.checks.check_range_order.Given as goal

-- no fault up to here
abbrev pub invariant-loop-place : goal.invariant-loop-place
invariant-loop-place l = range_order_fault 0 None l.ranges ≡ range_order_fault l.place l.before (drop l.place l.ranges)
