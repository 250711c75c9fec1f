use Rattle.legacy_japanese.proofs.EucJpHeld.{covered}
use Rattle.legacy_japanese.proofs.euc_jp.decoder.EucJpDecoderDecoderMoves.release_need.Goals as goal

pub returns-clause-covered : goal.returns-clause-covered
returns-clause-covered c = covered c.args.self.now.tables.now c.args.self.now.held
