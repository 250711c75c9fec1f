use Rattle.std.proofs.Common.{◌-◌, length, arith}
use Rattle.legacy_tables.proofs.PackedRuns.{runs_end-last, runs_end-none}
use Rattle.legacy_tables.proofs.tables.pointer_runs.PointerRuns.end.Goals as goal

pub returns-then-count-eq0 : goal.returns-then-count-eq0
returns-then-count-eq0 g c = runs_end-none c.args.self.now.runs.now c.if-count-eq0.true

pub returns : goal.returns
returns g c =
    rw (c.from.ensures, c.from-2.ensures) (runs_end-last c.args.self.now.runs.now c.args.self.now.ordered (length c.args.self.now.runs.now - 1) (omega arith))
