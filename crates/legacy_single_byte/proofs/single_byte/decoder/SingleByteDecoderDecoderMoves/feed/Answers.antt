use Rattle.std.proofs.Common.{arith}
use Rattle.legacy_single_byte.proofs.SingleByteShown.{feeds}
use Rattle.legacy_single_byte.proofs.single_byte.decoder.SingleByteDecoderDecoderMoves.feed.Goals as goal

pub returns-in-Some : goal.returns-in-Some
returns-in-Some c = grind (arith, feeds)
