use Rattle.legacy_tables.proofs.Accepted.{parts}
use Rattle.legacy_tables.proofs.tables.packed_tables.PackedTablesDecoderTables.ranges.Goals as goal

pub new-requires-clause-ordered : goal.new-requires-clause-ordered
new-requires-clause-ordered c = (parts _ c.self.inside.accepted).ordered

pub new-requires-clause-valued : goal.new-requires-clause-valued
new-requires-clause-valued c = (parts _ c.self.inside.accepted).valued
