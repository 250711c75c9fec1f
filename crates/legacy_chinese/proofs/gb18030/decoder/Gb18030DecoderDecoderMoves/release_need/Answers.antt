use Rattle.legacy_chinese.proofs.Gb18030Held.{covered}
use Rattle.legacy_chinese.proofs.gb18030.decoder.Gb18030DecoderDecoderMoves.release_need.Goals as goal

pub returns-clause-covered : goal.returns-clause-covered
returns-clause-covered c = covered c.args.self.now.tables.now c.args.self.now.held
