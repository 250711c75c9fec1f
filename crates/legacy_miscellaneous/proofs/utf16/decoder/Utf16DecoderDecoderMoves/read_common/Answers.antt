use Rattle.legacy_decoder_engine.proofs.WrittenReads.{reads_none}
use Rattle.legacy_miscellaneous.proofs.utf16.decoder.Utf16DecoderDecoderMoves.read_common.Goals as goal

pub returns-then-not-matches : goal.returns-then-not-matches
returns-then-not-matches g c = record { ahead = reads_none g.T.Destination _ c.args.src.now c.args.dst.now }
