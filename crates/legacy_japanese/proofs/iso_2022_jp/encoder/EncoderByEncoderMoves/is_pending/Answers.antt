use Rattle.{std.proofs.Common.rules, legacy_japanese.proofs.Iso2022JpEncoderMoves.serves}
use Rattle.legacy_japanese.proofs.iso_2022_jp.encoder.EncoderByEncoderMoves.is_pending.Goals as goal

pub returns : goal.returns
returns g c = record { is = search rules; serves = serves _ _ }
