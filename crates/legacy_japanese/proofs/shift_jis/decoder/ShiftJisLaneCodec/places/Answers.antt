use Rattle.std.{proofs.Common.{◌∙◌, arith}, specs.Int.Bits.bit_xor}
use Rattle.{legacy_decoder_engine.specs.LanePlaces.{lead_place_of, trail_place_of}, legacy_japanese.proofs.ShiftJisPlaces.changed_leads}
use Rattle.legacy_japanese.proofs.shift_jis.decoder.ShiftJisLaneCodec.places.Goals as goal

pub returns : goal.returns
returns c =
    c.place_sums.ensures 8836 (λ code. lead_place_of 0x21 0x2E 188 (bit_xor code 0xA0)) (trail_place_of 0x80 0xFC) c.args.codes (omega arith)
    (c.lead_places.ensures 0x2E (omega arith) (omega arith) ∙ changed_leads c.args.codes c.fits-codes.0 c.fits-codes.1)
    (c.trail_places.ensures 8836)
