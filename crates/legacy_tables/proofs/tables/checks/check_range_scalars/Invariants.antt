use Rattle.std.proofs.Common.{◌≡◌, drop}
use Rattle.legacy_tables.specs.TableChecks.{range_value_fault}
use Rattle.legacy_tables.proofs.tables.checks.check_range_scalars.Given as goal

-- no fault up to here
abbrev pub invariant-loop-place : goal.invariant-loop-place
invariant-loop-place l = range_value_fault 0 l.ranges ≡ range_value_fault l.place (drop l.place l.ranges)
