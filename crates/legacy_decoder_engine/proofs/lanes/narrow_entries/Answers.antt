use Rattle.std.proofs.Common.{get_or}
use Rattle.legacy_decoder_engine.proofs.LanePlaces.{lane_is}
use Rattle.legacy_decoder_engine.proofs.lanes.narrow_entries.Goals as goal

pub returns : goal.returns
returns c k h = lane_is (λ j. get_or c.args.index.now (get_or c.args.places.now j 0) 0) k h
