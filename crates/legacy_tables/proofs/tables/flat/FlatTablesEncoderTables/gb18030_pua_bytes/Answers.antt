use Rattle.std.proofs.{Common.arith, lemmas.Grind.common_steps}
use Rattle.legacy_tables.proofs.Accepted.{parts}
use Rattle.legacy_tables.proofs.tables.flat.FlatTablesEncoderTables.gb18030_pua_bytes.Goals as goal

pub row_bytes-requires : goal.row_bytes-requires
row_bytes-requires c = (parts _ c.self.inside.accepted).private_use

pub returns : goal.returns
returns c = grind (arith, common_steps)
