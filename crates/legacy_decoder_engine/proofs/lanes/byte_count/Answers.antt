use Rattle.std.proofs.Common.{arith}
use Rattle.legacy_decoder_engine.proofs.LaneUnits.{ascii_lanes}
use Rattle.legacy_decoder_engine.proofs.lanes.byte_count.Goals as goal

pub overflow_sub-result : goal.overflow_sub-result
overflow_sub-result c = let a = ascii_lanes c.args.kept c.fits-kept.0 in omega arith

pub returns : goal.returns
returns c = let a = ascii_lanes c.args.kept c.fits-kept.0 in omega arith
