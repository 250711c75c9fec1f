use Rattle.legacy_decoder_engine.proofs.WrittenReads.{reads_none}
use Rattle.legacy_decoder_engine.proofs.moves.DecoderMoves.read_common.Goals as goal

pub returns : goal.returns
returns g c = record { ahead = reads_none g.T.Destination _ _ _ }
