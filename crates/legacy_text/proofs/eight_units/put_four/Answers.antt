use Rattle.std.proofs.Common.{arith}
use Rattle.legacy_text.{specs.UnitBytes.{row, places}, proofs.UnitLanes.{rows_are, rows_fit, row_ok, row_written}}
use Rattle.legacy_text.proofs.eight_units.put_four.Goals as goal

pub swizzle : goal.swizzle
unfolding row
swizzle c = rw (c.row_of-row.ensures row rows_are) (row_ok (places 0 4 c.args.pattern) (rows_fit c.args.pattern c.requires.within).0)

pub returns-clause-most : goal.returns-clause-most
returns-clause-most c = grind (arith, rows_fit c.args.pattern)

pub returns-clause-written : goal.returns-clause-written
unfolding row
returns-clause-written c =
    let fit = rows_fit c.args.pattern c.requires.within in
    let row_is = c.row_of-row.ensures row rows_are in
    let written = row_written (places 0 4 c.args.pattern) fit.0 c.args.lanes (omega (arith, fit.1)) in
    grind arith
