use Rattle.{std.proofs.Common.◌-◌, legacy_miscellaneous.proofs.Utf16Ahead.EightsWritten}
use Rattle.legacy_miscellaneous.proofs.utf16.unit_blocks.Units.read_eights.Given as goal

abbrev pub invariant-loop-group : goal.invariant-loop-group
invariant-loop-group g l = EightsWritten g.T.Destination l.self.big_endian l.src l.eights l.group l.fn.dst l.dst

abbrev pub decreases-loop-group : goal.decreases-loop-group
decreases-loop-group g l = l.eights - l.group
