use Rattle.std.proofs.Common.{arith}
use Rattle.legacy_decoder_engine.proofs.lanes.put_known.Goals as goal

pub returns-clause-known : goal.returns-clause-known
returns-clause-known g c k h = c.known_count.ensures.known k (omega arith)

pub returns-clause-contents : goal.returns-clause-contents
returns-clause-contents g c = c.put_first.ensures.contents

pub returns-clause-room : goal.returns-clause-room
returns-clause-room g c = c.put_first.ensures.room
