use Rattle.std.proofs.Common.{rules}
use Rattle.legacy_chinese.proofs.gb18030.decoder.Gb18030DecoderDecoderMoves.rests.Goals as goal

pub returns-clause-is : goal.returns-clause-is
returns-clause-is c = search rules
