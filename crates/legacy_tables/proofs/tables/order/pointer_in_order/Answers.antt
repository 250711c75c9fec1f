use Rattle.std.proofs.Common.{arith}
use Rattle.legacy_tables.proofs.Orders.{order-at, order-absent}
use Rattle.legacy_tables.proofs.tables.order.pointer_in_order.Goals as goal

pub returns-then-place-order : goal.returns-then-place-order
returns-then-place-order g c =
    grind (arith, order-absent (g.N.Numbers.numbers c.args.index.now) c.args.order.now c.requires c.args.scalar c.count_below-place.result)

pub returns-then-number_at-scalar : goal.returns-then-number_at-scalar
returns-then-number_at-scalar g c =
    grind (arith, order-absent (g.N.Numbers.numbers c.args.index.now) c.args.order.now c.requires c.args.scalar c.count_below-place.result)

pub returns : goal.returns
returns g c = grind (arith, order-at (g.N.Numbers.numbers c.args.index.now) c.args.order.now c.requires c.args.scalar c.count_below-place.result)
