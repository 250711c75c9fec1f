use Rattle.legacy_chinese.proofs.Gb18030Held.{covered}
use Rattle.legacy_chinese.proofs.gb18030.decoder.Gb18030DecoderDecoderMoves.reading_need.Goals as goal

pub returns-then-matches-clause-covered : goal.returns-then-matches-clause-covered
returns-then-matches-clause-covered c = covered c.args.self.now.tables.now c.args.self.now.held

pub returns-else-byte-lt128-clause-covered : goal.returns-else-byte-lt128-clause-covered
returns-else-byte-lt128-clause-covered c = covered c.args.self.now.tables.now c.args.self.now.held
