use Rattle.legacy_decoder_engine.proofs.LeadHeld.{covered}
use Rattle.legacy_decoder_engine.proofs.lead_decoder.LeadDecoderDecoderMoves.release_need.Goals as goal

pub returns-clause-covered : goal.returns-clause-covered
returns-clause-covered g c = covered g.met.C.LeadCodec.codec g.met.C.LeadCodec.leads c.args.self.now.tables.now c.args.self.now.held
