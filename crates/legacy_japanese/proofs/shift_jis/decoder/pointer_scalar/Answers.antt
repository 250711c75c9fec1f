use Rattle.legacy_japanese.proofs.ShiftJisPlaces.{entry_alone}
use Rattle.legacy_japanese.proofs.shift_jis.decoder.pointer_scalar.Goals as goal

pub returns-in-Some : goal.returns-in-Some
returns-in-Some g c = entry_alone (g.V.DecoderTables.indexes c.args.tables.now) c.args.pointer c.in-Some.scalar c.in-Some.ensures
