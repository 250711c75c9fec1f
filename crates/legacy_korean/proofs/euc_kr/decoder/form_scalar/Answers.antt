use Rattle.{legacy_decoder_engine.{specs.Places.lead_place, proofs.PairPlaces.rows_are}, legacy_korean.proofs.EucKrPlaces.euc_kr_trail_place}
use Rattle.legacy_korean.proofs.EucKrPlaces.{euc_kr_trails_are, euc_kr_entry}
use Rattle.legacy_korean.proofs.euc_kr.decoder.form_scalar.Goals as goal

pub returns-clause-value : goal.returns-clause-value
returns-clause-value g c =
    rw (c.idx.ensures, c.pair_pointer.ensures lead_place euc_kr_trail_place rows_are euc_kr_trails_are)
    (euc_kr_entry (g.V.DecoderTables.indexes c.args.tables.now) c.args.lead c.args.trail)
