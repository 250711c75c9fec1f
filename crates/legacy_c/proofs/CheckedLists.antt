-- Indexes that passed their check pass it without their ranges.
use Rattle.std.proofs.Common.{arith, ◌≡◌, [], None}
use Rattle.legacy_tables.specs.Indexes.{FlatIndexes}
use Rattle.legacy_c.specs.Faults.{indexes_of}
use Rattle.legacy_c.specs.declared.index_tables.IndexTables.{IndexTables}
use Rattle.legacy_tables.specs.TableChecks.{table_fault, range_order_fault, range_value_fault}

pub without_ranges : (flat : FlatIndexes) → table_fault flat ≡ None → table_fault (record flat { ranges = [] }) ≡ None
unfolding table_fault range_order_fault range_value_fault
without_ranges flat h = grind arith

pub checked_without : (tables : IndexTables) (flat : FlatIndexes) → tables.checked ≡ 1 → flat ≡ record (indexes_of tables) { ranges = [] }
    → table_fault flat ≡ None
checked_without tables flat h e = rw e (without_ranges (indexes_of tables) (tables.accepted h).1)
