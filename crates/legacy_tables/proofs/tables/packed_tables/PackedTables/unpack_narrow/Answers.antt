use Rattle.legacy_tables.proofs.{Accepted.{euc_kr-below, jis0208-below, jis0212-below, gb18030-below}, PackedAccepted.entry-narrow}
use Rattle.legacy_tables.proofs.tables.packed_tables.PackedTables.unpack_narrow.Goals as goal

pub unpack-requires : goal.unpack-requires
unpack-requires c = entry-narrow _ (euc_kr-below _ c.self.inside.accepted)

pub unpack-requires-in-Jis0208 : goal.unpack-requires-in-Jis0208
unpack-requires-in-Jis0208 c = entry-narrow _ (jis0208-below _ c.self.inside.accepted)

pub unpack-requires-in-Jis0212 : goal.unpack-requires-in-Jis0212
unpack-requires-in-Jis0212 c = entry-narrow _ (jis0212-below _ c.self.inside.accepted)

pub unpack-requires-in-Gb18030 : goal.unpack-requires-in-Gb18030
unpack-requires-in-Gb18030 c = entry-narrow _ (gb18030-below _ c.self.inside.accepted)
