use Rattle.legacy_decoder_engine.proofs.WrittenReads.{reads_none}
use Rattle.legacy_decoder_engine.proofs.lead_decoder.LeadDecoderDecoderMoves.read_common.Goals as goal

pub returns-then-is_some : goal.returns-then-is_some
returns-then-is_some g c = record { ahead = reads_none g.T.Destination _ _ _ }
