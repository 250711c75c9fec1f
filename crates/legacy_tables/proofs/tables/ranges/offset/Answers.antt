use Rattle.std.proofs.Common.{arith}
use Rattle.legacy_tables.proofs.tables.ranges.offset.Goals as goal

pub returns-then-at-count-clause-among : goal.returns-then-at-count-clause-among
returns-then-at-count-clause-among c = (omega arith, c.if-at-count.true)
