use Rattle.std.proofs.Common.{rules, arith}
use Rattle.legacy_tables.proofs.tables.unpacking.write_row.Goals as goal

pub loop-at-preserved : goal.loop-at-preserved
loop-at-preserved g c = search rules

pub returns-clause-row : goal.returns-clause-row
returns-clause-row g c = λ k h. c.loop-at.invariant.row k (omega arith)
