use Rattle.legacy_japanese.proofs.Iso2022JpNeeds.{covered}
use Rattle.legacy_japanese.proofs.iso_2022_jp.decoder.Iso2022JpDecoderDecoderMoves.release_need.Goals as goal

pub returns-clause-covered : goal.returns-clause-covered
returns-clause-covered c = let self = c.args.self.now in covered self.tables.now.flat.jis0208 self.mode self.held
