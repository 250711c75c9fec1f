use Rattle.std.proofs.Common.{arith}
use Rattle.legacy_decoder_engine.specs.LanePlaces.{lead_place_of, late_place_of}
use Rattle.legacy_korean.proofs.euc_kr.decoder.EucKrLaneCodec.places.Goals as goal

pub returns : goal.returns
returns c =
    c.place_sums.ensures 23940 (lead_place_of 0x81 0x7D 190) (late_place_of 0x41) c.args.codes (omega arith)
    (c.lead_places.ensures 0x7D (omega arith) (omega arith)) (c.late_places.ensures 23940 (omega arith))
