use Rattle.std.proofs.Common.{arith, length-take-le}
use Rattle.legacy_streams.proofs.lines.LineBuffer.push_hundreds.Goals as goal

pub returns-clause-room : goal.returns-clause-room
returns-clause-room c = grind (arith, length-take-le)
