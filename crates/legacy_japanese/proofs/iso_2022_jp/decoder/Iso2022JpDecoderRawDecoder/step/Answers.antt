use Rattle.std.proofs.Common.{rules}
use Rattle.legacy_japanese.proofs.iso_2022_jp.decoder.Iso2022JpDecoderRawDecoder.step.Goals as goal

pub returns-clause-call : goal.returns-clause-call
returns-clause-call g c = search rules
