use Rattle.legacy_japanese.proofs.Iso2022JpEncoderMoves.{finishes}
use Rattle.legacy_japanese.proofs.iso_2022_jp.encoder.EncoderByEncoderMoves.finish.Goals as goal

pub returns : goal.returns
returns g c = finishes (g.P.FindsPairs.flat c.args.self.now.pairs) c.args.self.now.mode
