use Rattle.std.proofs.Common.{arith}
use Rattle.legacy_tables.proofs.TableLoops.{value_next, value_end}
use Rattle.legacy_tables.proofs.tables.checks.check_range_scalars.Goals as goal

pub returns-then-not-has_scalars : goal.returns-then-not-has_scalars
returns-then-not-has_scalars c = grind (arith, value_next c.args.ranges.now c.loop-place.place)

pub loop-place-preserved : goal.loop-place-preserved
loop-place-preserved c = grind (arith, value_next c.args.ranges.now c.loop-place.place)

pub returns : goal.returns
returns c = grind (arith, value_end c.args.ranges.now c.loop-place.place)
