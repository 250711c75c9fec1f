use Rattle.std.proofs.Common.{◌∙◌, refl, arith}
use Rattle.legacy_tables.proofs.TableLoops.{order_next, order_end}
use Rattle.legacy_tables.proofs.tables.checks.check_range_order.Goals as goal

pub returns-then-not-is_in_order : goal.returns-then-not-is_in_order
returns-then-not-is_in_order c = grind (arith, order_next c.args.ranges.now c.loop-place.place)

pub loop-place-preserved : goal.loop-place-preserved
loop-place-preserved c = c.loop-place.invariant ∙ order_next _ _ _ c.loop-place-test.true ∙ rw (← c.is_in_order.ensures, c.if-not-is_in_order.false) refl

pub returns : goal.returns
returns c = grind (arith, order_end c.args.ranges.now c.loop-place.place)
