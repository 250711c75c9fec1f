use Rattle.std.proofs.Common.{◌∙◌, arith}
use Rattle.legacy_tables.proofs.Pointers.{shift-jis-first}
use Rattle.legacy_tables.proofs.tables.pointers.shift_jis_pointer.Goals as goal

pub returns-in-Some : goal.returns-in-Some
returns-in-Some c = grind (arith, shift-jis-first c.args.jis0208.now c.args.scalar)

pub returns-in-None : goal.returns-in-None
returns-in-None c =
    let first = rw c.min.ensures at c.in-None.ensures in
    c.first_between-in-None.ensures ∙ (rw (← first) at (shift-jis-first c.args.jis0208.now c.args.scalar))
