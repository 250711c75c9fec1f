use Rattle.legacy_tables.proofs.PointerBounds.{gb18030-bound}
use Rattle.legacy_tables.proofs.tables.flat.FlatTablesEncoderTables.gb18030_pointer.Goals as goal

pub returns-clause-within : goal.returns-clause-within
returns-clause-within c = rw c.first.ensures (gb18030-bound _ c.self.inside.accepted c.args.scalar)
