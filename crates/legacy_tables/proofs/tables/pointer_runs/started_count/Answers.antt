use Rattle.std.proofs.{lemmas.Bool.Decides.nat_tests, Common.{rules, arith, nat_le}, lemmas.List.Sorted.{IsPartitionPoint-from_clause, IsPartitionedBy-leb}}
use Rattle.legacy_tables.specs.declared.tables.packed.Run.{Run}
use Rattle.legacy_tables.proofs.PackedRuns.{starts-rise}
use Rattle.legacy_tables.proofs.tables.pointer_runs.started_count.Goals as goal

pub returns : goal.returns
returns g c =
    let point =
    IsPartitionPoint-from_clause (λ (r : Run). nat_le r.pointer c.args.pointer) c.args.runs.now c.partition_point.result c.partition_point.ensures.partitioned
    (IsPartitionedBy-leb (λ (r : Run). r.pointer) c.args.runs.now c.args.pointer (starts-rise c.args.runs.now c.requires)) (λ a r q k. search rules) in
    grind (arith, nat_tests, point)
