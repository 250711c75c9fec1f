use Rattle.legacy_miscellaneous.proofs.Utf16Held.{may}
use Rattle.legacy_miscellaneous.proofs.utf16.decoder.Utf16DecoderDecoderMoves.rests.Goals as goal

pub returns-clause-allowed : goal.returns-clause-allowed
returns-clause-allowed c = may c.args.self.now.big_endian c.args.self.now.held
