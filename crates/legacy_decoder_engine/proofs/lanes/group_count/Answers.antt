use Rattle.std.proofs.Common.{arith}
use Rattle.legacy_decoder_engine.proofs.lanes.group_count.Goals as goal

pub returns-clause-room : goal.returns-clause-room
returns-clause-room c = omega arith
