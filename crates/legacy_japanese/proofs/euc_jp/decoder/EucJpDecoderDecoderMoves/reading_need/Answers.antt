use Rattle.legacy_japanese.proofs.EucJpHeld.{covered}
use Rattle.legacy_japanese.proofs.euc_jp.decoder.EucJpDecoderDecoderMoves.reading_need.Goals as goal

pub returns-then-matches-clause-covered : goal.returns-then-matches-clause-covered
returns-then-matches-clause-covered c = covered c.args.self.now.tables.now c.args.self.now.held

pub returns-else-byte-lt128-clause-covered : goal.returns-else-byte-lt128-clause-covered
returns-else-byte-lt128-clause-covered c = covered c.args.self.now.tables.now c.args.self.now.held
