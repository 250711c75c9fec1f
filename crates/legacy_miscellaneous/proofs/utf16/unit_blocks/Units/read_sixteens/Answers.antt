use Rattle.std.proofs.Common.{arith}
use Rattle.legacy_decoder_engine.proofs.{JoinedReads.reads_more, WrittenReads.reads_none}
use Rattle.legacy_miscellaneous.proofs.utf16.unit_blocks.Units.read_sixteens.Goals as goal

pub loop-left-preserved : goal.loop-left-preserved
loop-left-preserved g c = grind (arith, reads_more c.loop-left.invariant.2 c.read_sixteen-read.ensures.ahead)

pub returns-then-read-eq0 : goal.returns-then-read-eq0
returns-then-read-eq0 g c = reads_more c.loop-left.invariant.2 c.read_sixteen-read.ensures.ahead

pub loop-left-init : goal.loop-left-init
loop-left-init g c = (omega arith, omega arith, reads_none g.T.Destination _ c.args.src.now c.args.dst.now)

pub returns : goal.returns
returns g c = c.loop-left.invariant.2
