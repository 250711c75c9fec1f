use Rattle.std.proofs.Common.{rules}
use Rattle.legacy_japanese.proofs.iso_2022_jp.encoder.EncoderByRawEncoder.max_buffer_length_from_utf8_without_replacement.Goals as goal

pub returns : goal.returns
returns g c = search rules
