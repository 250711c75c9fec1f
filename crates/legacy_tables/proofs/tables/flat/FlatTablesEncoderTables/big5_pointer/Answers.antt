use Rattle.legacy_tables.proofs.PointerBounds.{big5-bound}
use Rattle.legacy_tables.proofs.tables.flat.FlatTablesEncoderTables.big5_pointer.Goals as goal

pub returns-clause-within : goal.returns-clause-within
returns-clause-within c = rw c.big5_pointer.ensures (big5-bound _ c.self.inside.accepted c.args.scalar)
