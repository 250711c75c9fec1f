use Rattle.std.proofs.Common.{arith}
use Rattle.legacy_tables.proofs.Pointers.{first-between, none-between}
use Rattle.legacy_tables.proofs.tables.pointers.first_between.Goals as goal

pub returns-then-number-entry : goal.returns-then-number-entry
returns-then-number-entry g c =
    grind (arith, first-between c.args.start c.args.end (g.E.Entry.numbers c.args.index.now) c.args.scalar)

pub returns : goal.returns
returns g c = grind (arith, none-between c.args.start c.args.end (g.E.Entry.numbers c.args.index.now) c.args.scalar)
