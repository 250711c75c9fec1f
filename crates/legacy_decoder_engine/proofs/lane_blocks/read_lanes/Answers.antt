use Rattle.legacy_decoder_engine.proofs.WrittenReads.{reads_none}
use Rattle.legacy_decoder_engine.proofs.lane_blocks.read_lanes.Goals as goal

pub returns-then-left-gt0 : goal.returns-then-left-gt0
returns-then-left-gt0 g c = reads_none g.T.Destination _ _ _

pub returns-then-not-begins_many : goal.returns-then-not-begins_many
returns-then-not-begins_many g c = reads_none g.T.Destination _ _ _
