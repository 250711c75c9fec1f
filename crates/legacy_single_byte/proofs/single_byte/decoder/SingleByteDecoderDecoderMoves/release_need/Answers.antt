use Rattle.legacy_single_byte.proofs.SingleByteShown.{covered}
use Rattle.legacy_single_byte.proofs.single_byte.decoder.SingleByteDecoderDecoderMoves.release_need.Goals as goal

pub returns-clause-covered : goal.returns-clause-covered
returns-clause-covered c = covered c.args.self.now.scalars.table.now
