use Rattle.legacy_tables.proofs.{Accepted.big5-scalars, PackedAccepted.entry-wide}
use Rattle.legacy_tables.proofs.tables.packed_tables.PackedTables.unpack_big5.Goals as goal

pub unpack-requires : goal.unpack-requires
unpack-requires c = entry-wide _ (big5-scalars _ c.self.inside.accepted)
