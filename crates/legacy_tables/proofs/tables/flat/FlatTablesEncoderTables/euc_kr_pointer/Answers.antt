use Rattle.legacy_tables.proofs.PointerBounds.{euc-kr-bound}
use Rattle.legacy_tables.proofs.tables.flat.FlatTablesEncoderTables.euc_kr_pointer.Goals as goal

pub returns-clause-within : goal.returns-clause-within
returns-clause-within c = rw c.first.ensures (euc-kr-bound _ c.self.inside.accepted c.args.scalar)
