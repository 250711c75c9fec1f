use Rattle.legacy_decoder_engine.proofs.{JoinedReads.reads_more, WrittenReads.reads_none}
use Rattle.legacy_miscellaneous.proofs.utf16.unit_blocks.Units.read_singly.Goals as goal

pub loop-left-init : goal.loop-left-init
loop-left-init g c = reads_none g.T.Destination _ c.args.src.now c.args.dst.now

pub loop-left-preserved : goal.loop-left-preserved
loop-left-preserved g c = reads_more c.loop-left.invariant c.read_scalar-read.ensures

pub returns-then-read-eq0 : goal.returns-then-read-eq0
returns-then-read-eq0 g c = reads_more c.loop-left.invariant c.read_scalar-read.ensures

pub returns-else-src-at-ge2 : goal.returns-else-src-at-ge2
returns-else-src-at-ge2 g c = c.loop-left.invariant

pub returns-else-free : goal.returns-else-free
returns-else-free g c = c.loop-left.invariant

pub returns-after-loop-left : goal.returns-after-loop-left
returns-after-loop-left g c = c.loop-left.invariant
