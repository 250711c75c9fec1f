use Rattle.legacy_decoder_engine.proofs.WrittenReads.{reads_none}
use Rattle.legacy_japanese.proofs.iso_2022_jp.decoder.Iso2022JpDecoderDecoderMoves.read_common.Goals as goal

pub returns-then-not-is_nothing : goal.returns-then-not-is_nothing
returns-then-not-is_nothing g c = record { ahead = reads_none _ _ _ _ }
