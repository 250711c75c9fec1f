use Rattle.std.proofs.Common.{rules}
use Rattle.legacy_chinese.proofs.gb18030.decoder.Gb18030DecoderDecoderMoves.after_malformed.Goals as goal

pub returns : goal.returns
returns c = search rules
