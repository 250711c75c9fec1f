use Rattle.legacy_miscellaneous.proofs.Utf16Held.{covered}
use Rattle.legacy_miscellaneous.proofs.utf16.decoder.Utf16DecoderDecoderMoves.reading_need.Goals as goal

pub returns-clause-covered : goal.returns-clause-covered
returns-clause-covered c = covered c.args.self.now.big_endian c.args.self.now.held
