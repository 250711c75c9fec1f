use Rattle.{std.proofs.Common.◌-◌, legacy_miscellaneous.proofs.UserDefinedAhead.BytesWritten}
use Rattle.legacy_miscellaneous.proofs.user_defined.blocks.read_few.Given as goal

abbrev pub invariant-loop-at : goal.invariant-loop-at
invariant-loop-at g l = BytesWritten g.T.Destination l.src l.most l.at l.fn.dst l.dst

abbrev pub decreases-loop-at : goal.decreases-loop-at
decreases-loop-at g l = l.most - l.at
