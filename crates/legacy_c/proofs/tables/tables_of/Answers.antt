use Rattle.std.proofs.Common.{rules}
use Rattle.legacy_c.proofs.CheckedLists.{checked_without}
use Rattle.legacy_c.proofs.tables.tables_of.Goals as goal

pub of_checked-requires : goal.of_checked-requires
of_checked-requires c = checked_without c.args.tables.now _ (search rules) c.indexes_with.ensures
