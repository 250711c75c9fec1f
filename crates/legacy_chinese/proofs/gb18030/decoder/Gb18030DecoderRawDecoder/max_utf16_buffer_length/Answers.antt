use Rattle.std.proofs.Common.{rules}
use Rattle.legacy_chinese.proofs.gb18030.decoder.Gb18030DecoderRawDecoder.max_utf16_buffer_length.Goals as goal

pub returns : goal.returns
returns c = search rules
