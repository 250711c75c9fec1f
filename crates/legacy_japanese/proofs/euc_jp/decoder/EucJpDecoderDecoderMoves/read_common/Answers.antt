use Rattle.legacy_decoder_engine.proofs.WrittenReads.{reads_none}
use Rattle.legacy_japanese.proofs.euc_jp.decoder.EucJpDecoderDecoderMoves.read_common.Goals as goal

pub returns-in_default : goal.returns-in_default
returns-in_default g c = record { ahead = reads_none _ _ _ _ }
