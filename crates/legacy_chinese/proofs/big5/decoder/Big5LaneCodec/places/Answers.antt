use Rattle.std.proofs.Common.{arith}
use Rattle.legacy_decoder_engine.specs.LanePlaces.{lead_place_of, trail_place_of}
use Rattle.legacy_chinese.proofs.big5.decoder.Big5LaneCodec.places.Goals as goal

pub returns : goal.returns
returns c =
    c.place_sums.ensures 19782 (lead_place_of 0x81 0x7D 157) (trail_place_of 0xA1 0xFE) c.args.codes (omega arith)
    (c.lead_places.ensures 0x7D (omega arith) (omega arith)) (c.trail_places.ensures 19782)
