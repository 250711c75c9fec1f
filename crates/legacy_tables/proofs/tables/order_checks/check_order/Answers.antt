use Rattle.std.proofs.Common.{arith}
use Rattle.legacy_tables.proofs.Orders.{order-rises, order-lookup}
use Rattle.legacy_tables.proofs.tables.order_checks.check_order.Goals as goal

pub first_difference-requires : goal.first_difference-requires
first_difference-requires g c = grind (arith, order-rises, order-lookup)
