use Rattle.legacy_decoder_engine.proofs.WrittenReads.{reads_none}
use Rattle.legacy_decoder_engine.proofs.lane_blocks.read_nearby.Goals as goal

pub returns-then-left-eq0 : goal.returns-then-left-eq0
returns-then-left-eq0 g c = reads_none g.T.Destination _ _ _

pub returns : goal.returns
returns g c = c.read_all.ensures.ahead
