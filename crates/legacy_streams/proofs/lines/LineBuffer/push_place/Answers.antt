use Rattle.std.proofs.Common.{arith, length-append, decimal, append_assoc}
use Rattle.legacy_streams.proofs.EventLines.{decimal_of_hundreds}
use Rattle.legacy_streams.proofs.lines.LineBuffer.push_place.Goals as goal

pub returns-clause-text : goal.returns-clause-text
returns-clause-text c = grind (arith, decimal_of_hundreds, append_assoc, decimal)

pub returns-clause-room : goal.returns-clause-room
returns-clause-room c = grind (arith, decimal_of_hundreds, length-append, decimal)
