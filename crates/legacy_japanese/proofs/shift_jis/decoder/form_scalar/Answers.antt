use Rattle.std.proofs.Common.{refl}
use Rattle.legacy_decoder_engine.specs.LanePlaces.{trail_place}
use Rattle.legacy_japanese.{specs.ShiftJisPlaces.shift_jis_lead_place, proofs.ShiftJisPlaces.{shift_jis_entry}}
use Rattle.legacy_japanese.proofs.shift_jis.decoder.form_scalar.Goals as goal

pub returns-clause-value : goal.returns-clause-value
unfolding shift_jis_lead_place
returns-clause-value g c =
    rw (c.pointer_scalar.ensures, c.pair_pointer.ensures shift_jis_lead_place (trail_place 0x80 0xFC) refl refl)
    (shift_jis_entry (g.V.DecoderTables.indexes c.args.tables.now) c.args.lead c.args.trail)
