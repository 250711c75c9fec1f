use Rattle.std.proofs.Common.{arith}
use Rattle.legacy_tables.proofs.Accepted.{parts}
use Rattle.legacy_tables.proofs.tables.packed_tables.PackedTablesEncoderTables.fill.Goals as goal

pub walk-requires : goal.walk-requires
walk-requires g c = let short = (parts _ c.self.inside.accepted).big5.0 in omega arith

pub walk-requires-in-EucKr : goal.walk-requires-in-EucKr
walk-requires-in-EucKr g c = let short = (parts _ c.self.inside.accepted).euc_kr.0 in omega arith

pub walk-requires-in-Jis0208 : goal.walk-requires-in-Jis0208
walk-requires-in-Jis0208 g c = let short = (parts _ c.self.inside.accepted).jis0208.0 in omega arith

pub walk-requires-in-Jis0212 : goal.walk-requires-in-Jis0212
walk-requires-in-Jis0212 g c = let short = (parts _ c.self.inside.accepted).jis0212.0 in omega arith

pub walk-requires-in-Gb18030 : goal.walk-requires-in-Gb18030
walk-requires-in-Gb18030 g c = let short = (parts _ c.self.inside.accepted).gb18030.0 in omega arith
