use Rattle.std.proofs.Common.{arith}
use Rattle.legacy_tables.proofs.PackedRuns.{scalar-before, scalar-had}
use Rattle.legacy_tables.proofs.tables.pointer_runs.PointerRuns.scalar_at.Goals as goal

pub returns-then-place-self : goal.returns-then-place-self
returns-then-place-self g c =
    grind (arith, scalar-before c.args.self.now.runs.now c.args.self.now.ordered c.args.place c.args.pointer c.requires)

pub returns-then-pointer-from : goal.returns-then-pointer-from
returns-then-pointer-from g c = grind (arith, scalar-before)

pub returns : goal.returns
returns g c = grind (arith, scalar-had c.args.self.now.runs.now c.args.self.now.ordered c.args.pointer c.args.place)
