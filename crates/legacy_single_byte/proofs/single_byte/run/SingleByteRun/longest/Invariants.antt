use Rattle.legacy_single_byte.specs.LongestRun.{LongestToThe, LongestUpTo}
use Rattle.legacy_single_byte.proofs.single_byte.run.SingleByteRun.longest.Given as goal

-- the longest run that ends before the place, and the longest one up to it
abbrev pub invariant-loop-place : goal.invariant-loop-place
invariant-loop-place l =
    LongestToThe l.table.entries l.run.scalar l.run.start l.run.count l.place
    × LongestUpTo l.table.entries l.best.scalar l.best.start l.best.count l.place
