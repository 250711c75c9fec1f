use Rattle.std.proofs.Common.{rules}
use Rattle.legacy_miscellaneous.proofs.replacement.decoder.ReplacementDecoderDecoderMoves.reading_need.Goals as goal

pub returns-else-self-clause-units : goal.returns-else-self-clause-units
returns-else-self-clause-units c = search rules
