use Rattle.std.proofs.{lemmas.Bool.Decides.nat_tests, Common.{ℕ, rules, arith, nat_le}, lemmas.List.Sorted.{IsPartitionPoint-from_clause, IsPartitionedBy-leb}}
use Rattle.legacy_tables.proofs.Accepted.{rising}
use Rattle.legacy_tables.proofs.tables.lookups.started_count.Goals as goal

pub returns : goal.returns
returns c =
    let point =
    IsPartitionPoint-from_clause (λ (r : ℕ × ℕ). nat_le r.0 c.args.pointer) c.args.ranges.now
    c.partition_point.result c.partition_point.ensures.partitioned
    (IsPartitionedBy-leb (λ (r : ℕ × ℕ). r.0) c.args.ranges.now c.args.pointer (rising c.args.ranges.now c.requires)) (λ a r q k. search rules) in
    grind (arith, nat_tests, point)
