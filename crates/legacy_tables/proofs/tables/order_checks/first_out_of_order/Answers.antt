use Rattle.std.proofs.Common.{arith}
use Rattle.legacy_tables.proofs.Orders.{pointers_next, pointers_end}
use Rattle.legacy_tables.proofs.tables.order_checks.first_out_of_order.Goals as goal

pub returns-then-not-is_in_order : goal.returns-then-not-is_in_order
returns-then-not-is_in_order g c = grind (arith, pointers_next)

pub loop-place-preserved : goal.loop-place-preserved
loop-place-preserved g c = grind (arith, pointers_next)

pub returns : goal.returns
returns g c = grind (arith, pointers_end)
