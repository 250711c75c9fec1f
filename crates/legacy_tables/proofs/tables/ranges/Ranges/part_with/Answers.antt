use Rattle.std.proofs.Common.{rules}
use Rattle.legacy_tables.specs.RangeParts.{IsPartAt}
use Rattle.legacy_tables.proofs.tables.ranges.Ranges.part_with.Goals as goal

pub returns-clause-with_scalar : goal.returns-clause-with_scalar
returns-clause-with_scalar c =
    let is : IsPartAt c.args.self.now.list.now c.saturating_sub.result c.part_at.result = c.part_at.ensures.at in search rules
