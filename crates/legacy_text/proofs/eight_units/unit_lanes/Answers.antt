use Rattle.std.proofs.Common.{arith}
use Rattle.legacy_text.proofs.UnitLanes.{lane_steps}
use Rattle.legacy_text.proofs.eight_units.unit_lanes.Goals as goal

pub returns : goal.returns
returns c = grind (arith, lane_steps)
