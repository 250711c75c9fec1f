use Rattle.std.proofs.Common.{◌<◌, ◌^◌, arith}
use Rattle.legacy_decoder_engine.proofs.LeadHeld.{feeds}
use Rattle.legacy_decoder_engine.proofs.lead_decoder.LeadDecoderDecoderMoves.feed.Goals as goal

pub returns : goal.returns
returns g c =
    let byte : c.args.byte < 2 ^ 8 = omega arith in
    let laws = g.met.C.LeadCodec in
    feeds laws.codec laws.leads c.args.self.now.tables.now c.args.self.now.held c.args.byte byte _ _ c.read-fed.ensures
