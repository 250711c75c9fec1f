use Rattle.legacy_tables.proofs.PointerBounds.{shift-jis-bound}
use Rattle.legacy_tables.proofs.tables.flat.FlatTablesEncoderTables.shift_jis_pointer.Goals as goal

pub returns-clause-within : goal.returns-clause-within
returns-clause-within c = rw c.shift_jis_pointer.ensures (shift-jis-bound _ c.self.inside.accepted c.args.scalar)
