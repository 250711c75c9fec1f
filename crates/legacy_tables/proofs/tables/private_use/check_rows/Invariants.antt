use Rattle.std.proofs.Common.{◌≡◌, None, drop}
use Rattle.legacy_tables.specs.TableChecks.{rows_fault}
use Rattle.legacy_tables.proofs.tables.private_use.check_rows.Given as goal

-- no fault up to here
abbrev pub invariant-loop-place : goal.invariant-loop-place
invariant-loop-place l = rows_fault 0 None l.rows ≡ rows_fault l.place l.before (drop l.place l.rows)
