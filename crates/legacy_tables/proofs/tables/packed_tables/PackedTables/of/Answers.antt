use Rattle.legacy_tables.specs.{Tables.flat_indexes, TableChecks.table_fault, Packed.all_runs_fault}
use Rattle.legacy_tables.proofs.Accepted.{or_none}
use Rattle.legacy_tables.proofs.PackedAccepted.{packed-accepted, packed-tables, lists-same, orders-answer, runs-in_order}
use Rattle.legacy_tables.proofs.tables.packed_tables.PackedTables.of.Goals as goal

pub of-requires : goal.of-requires
of-requires c =
    let flat = flat_indexes c.args.indexes.now in
    let checked = or_none (table_fault flat) _ c.requires in
    runs-in_order flat c.args.packed.now (or_none (all_runs_fault flat c.args.packed.now) _ checked.1).0

pub invariant_of-result : goal.invariant_of-result
invariant_of-result c =
    let flat = flat_indexes c.args.indexes.now in
    let checked = or_none (table_fault flat) _ c.requires in
    let parts = or_none (all_runs_fault flat c.args.packed.now) _ checked.1 in
    let same = lists-same c.of.result flat c.args.packed.now c.of.ensures in
    let accepted = packed-accepted flat c.args.packed.now checked.0 parts.0 in
    let orders = orders-answer flat c.args.packed.now checked.0 parts.0 c.of-2.result c.of-2.ensures parts.1 in
    (rw same accepted, (rw same orders, tt))

pub returns : goal.returns
returns c =
    let flat = flat_indexes c.args.indexes.now in
    let checked = or_none (table_fault flat) _ c.requires in
    let parts = or_none (all_runs_fault flat c.args.packed.now) _ checked.1 in
    rw (lists-same c.of.result flat c.args.packed.now c.of.ensures) (packed-tables flat c.args.packed.now checked.0 parts.0 parts.1)
