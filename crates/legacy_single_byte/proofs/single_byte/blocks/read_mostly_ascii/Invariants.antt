use Rattle.std.proofs.Common.{◌-◌}
use Rattle.legacy_single_byte.proofs.MostlyRead.{AreMostly}
use Rattle.legacy_single_byte.proofs.single_byte.blocks.read_mostly_ascii.Given as goal

abbrev pub invariant-loop-at : goal.invariant-loop-at
invariant-loop-at g l = AreMostly l.scalars.table.now g.T.Destination l.src l.end l.at l.past l.fn.dst l.dst

abbrev pub decreases-loop-at : goal.decreases-loop-at
decreases-loop-at g l = l.end - l.at
