use Rattle.std.proofs.Common.{arith}
use Rattle.legacy_tables.proofs.TableLoops.{fault_steps}
use Rattle.legacy_tables.specs.Packed.{all_orders_fault}
use Rattle.legacy_tables.proofs.tables.order_checks.check_all_orders.Goals as goal

pub returns-in_err-check_order : goal.returns-in_err-check_order
unfolding all_orders_fault
returns-in_err-check_order c = grind (arith, fault_steps)

pub returns-in_err-check_order-2 : goal.returns-in_err-check_order-2
unfolding all_orders_fault
returns-in_err-check_order-2 c = grind (arith, fault_steps)

pub returns-in_err-check_order-3 : goal.returns-in_err-check_order-3
unfolding all_orders_fault
returns-in_err-check_order-3 c = grind (arith, fault_steps)

pub returns-in_err-check_order-4 : goal.returns-in_err-check_order-4
unfolding all_orders_fault
returns-in_err-check_order-4 c = grind (arith, fault_steps)

pub returns : goal.returns
unfolding all_orders_fault
returns c = grind arith
