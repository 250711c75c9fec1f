use Rattle.{std.proofs.Common.◌-◌, legacy_miscellaneous.proofs.Utf16Ahead.FewWritten}
use Rattle.legacy_miscellaneous.proofs.utf16.unit_blocks.Units.read_few.Given as goal

abbrev pub invariant-loop-at : goal.invariant-loop-at
invariant-loop-at g l = FewWritten g.T.Destination l.self.big_endian l.src l.count l.at l.fn.dst l.dst

abbrev pub decreases-loop-at : goal.decreases-loop-at
decreases-loop-at g l = l.count - l.at
