use Rattle.std.proofs.Common.{arith}
use Rattle.legacy_decoder_engine.specs.LanePlaces.{lead_place_of, late_place_of}
use Rattle.legacy_japanese.proofs.euc_jp.decoder.EucJpLaneCodec.places.Goals as goal

pub returns : goal.returns
returns c =
    c.place_sums.ensures 8836 (lead_place_of 0xA1 0x5D 94) (late_place_of 0xA1) c.args.codes (omega arith)
    (c.lead_places.ensures 0x5D (omega arith) (omega arith)) (c.late_places.ensures 8836 (omega arith))
