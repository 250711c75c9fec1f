use Rattle.std.proofs.Common.{arith}
use Rattle.legacy_decoder_engine.specs.LanePlaces.{lead_place_of, trail_place_of}
use Rattle.legacy_chinese.proofs.gb18030.four_byte_blocks.Gb18030LaneCodec.places.Goals as goal

pub returns : goal.returns
returns c =
    c.place_sums.ensures 23940 (lead_place_of 0x81 0x7D 190) (trail_place_of 0x80 0xFE) c.args.codes (omega arith)
    (c.lead_places.ensures 0x7D (omega arith) (omega arith)) (c.trail_places.ensures 23940)
