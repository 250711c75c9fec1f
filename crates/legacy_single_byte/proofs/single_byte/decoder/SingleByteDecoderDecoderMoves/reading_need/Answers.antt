use Rattle.legacy_single_byte.proofs.SingleByteShown.{covered}
use Rattle.legacy_single_byte.proofs.single_byte.decoder.SingleByteDecoderDecoderMoves.reading_need.Goals as goal

pub returns-then-byte-lt128-clause-covered : goal.returns-then-byte-lt128-clause-covered
returns-then-byte-lt128-clause-covered c = covered c.args.self.now.scalars.table.now

pub returns-else-byte-lt128-clause-covered : goal.returns-else-byte-lt128-clause-covered
returns-else-byte-lt128-clause-covered c = covered c.args.self.now.scalars.table.now
