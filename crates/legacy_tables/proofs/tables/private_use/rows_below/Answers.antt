use Rattle.std.proofs.{lemmas.Bool.Decides.nat_tests, Common.{ℕ, rules, arith, nat_lt}, lemmas.List.Sorted.{IsPartitionPoint-from_clause, IsPartitionedBy-ltb}}
use Rattle.legacy_tables.proofs.PrivateUse.{rows-rising}
use Rattle.legacy_tables.proofs.tables.private_use.rows_below.Goals as goal

pub returns : goal.returns
returns c =
    let point =
    IsPartitionPoint-from_clause (λ (r : ℕ × ℕ × ℕ). nat_lt r.0 c.args.scalar) c.args.rows.now
    c.partition_point.result c.partition_point.ensures.partitioned
    (IsPartitionedBy-ltb (λ (r : ℕ × ℕ × ℕ). r.0) c.args.rows.now c.args.scalar (rows-rising c.args.rows.now c.requires)) (λ a r q k. search rules) in
    grind (arith, nat_tests, point)
