use Rattle.std.proofs.Common.{arith}
use Rattle.legacy_decoder_engine.proofs.{JoinedReads.reads_more, WrittenReads.reads_none}
use Rattle.legacy_single_byte.proofs.single_byte.blocks.read_parts.Goals as goal

pub loop-at-preserved : goal.loop-at-preserved
loop-at-preserved g c = (omega (arith, c.loop-at.invariant.0, c.read_part-read.ensures.most), reads_more c.loop-at.invariant.1 c.read_part-read.ensures.ahead)

pub returns-then-not-goes_on-clause-ahead : goal.returns-then-not-goes_on-clause-ahead
returns-then-not-goes_on-clause-ahead g c = reads_more c.loop-at.invariant.1 c.read_part-read.ensures.ahead

pub read_part-read-requires-clause-room : goal.read_part-read-requires-clause-room
read_part-read-requires-clause-room g c = omega (arith, c.free.ensures, c.if-free.true)

pub loop-at-init : goal.loop-at-init
loop-at-init g c = (omega arith, reads_none _ _ _ _)
