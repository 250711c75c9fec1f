use Rattle.std.proofs.Common.{◌≡◌, drop}
use Rattle.legacy_tables.specs.Packed.{order_fault, order_fault_from}
use Rattle.legacy_tables.proofs.tables.order_checks.first_out_of_order.Given as goal

-- no fault up to here
abbrev pub invariant-loop-place : goal.invariant-loop-place
invariant-loop-place g l = order_fault l.part (g.N.Numbers.numbers l.index) l.order
    ≡ order_fault_from l.part (g.N.Numbers.numbers l.index) l.place l.above (drop l.place l.order)
