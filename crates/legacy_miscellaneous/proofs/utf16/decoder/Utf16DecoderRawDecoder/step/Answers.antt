use Rattle.std.proofs.Common.{rules}
use Rattle.legacy_miscellaneous.proofs.utf16.decoder.Utf16DecoderRawDecoder.step.Goals as goal

pub returns-clause-call : goal.returns-clause-call
returns-clause-call g c = search rules depth 1
