use Rattle.std.proofs.lemmas.Bool.Decides.{nat_tests}
use Rattle.std.proofs.Common.{ℕ, rules, arith, nat_lt, slice_index}
use Rattle.std.proofs.lemmas.List.Sorted.{IsPartitionPoint-from_clause, IsPartitionedBy-ltb}
use Rattle.legacy_tables.proofs.Orders.{order-rising}
use Rattle.legacy_tables.proofs.tables.order.count_below.Goals as goal

pub returns : goal.returns
returns g c =
    let index = g.N.Numbers.numbers c.args.index.now in
    let point =
    IsPartitionPoint-from_clause (λ (p : ℕ). nat_lt (slice_index index p) c.args.scalar) c.args.order.now
    c.partition_point.result c.partition_point.ensures.partitioned
    (IsPartitionedBy-ltb (λ (p : ℕ). slice_index index p) c.args.order.now c.args.scalar (order-rising index c.args.order.now c.requires))
    (λ a r q k. search rules) in
    grind (arith, nat_tests, point)
