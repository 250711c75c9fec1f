use Rattle.std.proofs.Common.{arith}
use Rattle.legacy_decoder_engine.proofs.{JoinedReads.reads_more, WrittenReads.reads_none}
use Rattle.legacy_single_byte.proofs.single_byte.blocks.read_eights.Goals as goal

pub loop-left-preserved : goal.loop-left-preserved
loop-left-preserved g c = grind (arith, reads_more c.loop-left.invariant.3 c.read_singly-read.ensures.ahead)

pub returns-then-read-lt8-clause-ahead : goal.returns-then-read-lt8-clause-ahead
returns-then-read-lt8-clause-ahead g c = reads_more c.loop-left.invariant.3 c.read_singly-read.ensures.ahead

pub loop-left-init : goal.loop-left-init
loop-left-init g c = (omega arith, omega arith, omega (arith, c.free.ensures), reads_none g.T.Destination _ c.args.src.now c.args.dst.now)
