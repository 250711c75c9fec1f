use Rattle.std.proofs.Common.{refl}
use Rattle.legacy_decoder_engine.{specs.{Places.lead_place, LanePlaces.trail_place}, proofs.PairPlaces.rows_are}
use Rattle.legacy_chinese.proofs.Gb18030Held.{gb18030_entry}
use Rattle.legacy_chinese.proofs.gb18030.four_byte_blocks.form_scalar.Goals as goal

pub returns-clause-value : goal.returns-clause-value
returns-clause-value g c =
    rw (c.idx.ensures, c.pair_pointer.ensures lead_place (trail_place 0x80 0xFE) rows_are refl)
    (gb18030_entry (g.V.DecoderTables.indexes c.args.tables.now) c.args.lead c.args.trail)
