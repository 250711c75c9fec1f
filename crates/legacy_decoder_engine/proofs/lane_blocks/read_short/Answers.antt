use Rattle.legacy_decoder_engine.proofs.{JoinedReads.reads_more}
use Rattle.legacy_decoder_engine.proofs.WrittenReads.{reads_none}
use Rattle.legacy_decoder_engine.proofs.lane_blocks.read_short.Goals as goal

pub loop-codes-preserved : goal.loop-codes-preserved
loop-codes-preserved g c = reads_more c.loop-codes.invariant c.read_front-read.ensures.ahead

pub returns-then-not-goes_on : goal.returns-then-not-goes_on
returns-then-not-goes_on g c = reads_more c.loop-codes.invariant c.read_front-read.ensures.ahead

pub returns-then-begins_many : goal.returns-then-begins_many
returns-then-begins_many g c =
    reads_more (reads_more c.loop-codes.invariant c.read_front-read.ensures.ahead) c.read_long.ensures

pub loop-codes-init : goal.loop-codes-init
loop-codes-init g c = reads_none g.T.Destination _ _ _
