use Rattle.std.proofs.{lemmas.Bool.Decides.nat_tests, Common.{◌-◌, ◌<◌, arith}}
use Rattle.legacy_tables.proofs.PackedRuns.{scalar-had, none-has}
use Rattle.legacy_tables.proofs.tables.pointer_runs.PointerRuns.scalar.Goals as goal

pub returns-then-count-eq0 : goal.returns-then-count-eq0
returns-then-count-eq0 g c = grind (arith, none-has c.args.self.now.runs.now c.args.self.now.ordered c.args.pointer 0)

pub overflow_sub-at : goal.overflow_sub-at
overflow_sub-at g c = grind (arith, c.started_count-count.ensures.started (c.started_count-count.result - 1))

pub returns-then-at-from : goal.returns-then-at-from
returns-then-at-from g c =
    let count = c.started_count-count.result in
    grind (arith, nat_tests, none-has c.args.self.now.runs.now c.args.self.now.ordered c.args.pointer count, c.started_count-count.ensures.started (count - 1))

pub returns : goal.returns
returns g c =
    let n = c.started_count-count.result - 1 in
    let within : c.args.pointer - c.from.result < c.from-2.result = c.if-at-from.false in
    grind (arith, nat_tests, scalar-had c.args.self.now.runs.now c.args.self.now.ordered c.args.pointer n, c.started_count-count.ensures.started n)
