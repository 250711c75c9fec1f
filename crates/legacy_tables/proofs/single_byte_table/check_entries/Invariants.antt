use Rattle.std.proofs.Common.{◌≡◌, take, drop, reverse}
use Rattle.legacy_tables.specs.TableChecks.{single_byte_fault, byte_entries_fault}
use Rattle.legacy_tables.proofs.single_byte_table.check_entries.Given as goal

-- no fault up to here
abbrev pub invariant-loop-place : goal.invariant-loop-place
invariant-loop-place l = single_byte_fault l.entries ≡ byte_entries_fault l.place (reverse (take l.place l.entries)) (drop l.place l.entries)
