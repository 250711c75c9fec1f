use Rattle.{std.proofs.Common.arith, legacy_text.specs.UnitBytes.{short_row, short_lanes, short_places}}
use Rattle.legacy_text.proofs.UnitLanes.{short_rows_are, short_rows_fit, short_text_of_eight, row_ok, row_written}
use Rattle.legacy_text.proofs.eight_units.put_short_units.Goals as goal

pub swizzle : goal.swizzle
unfolding short_row
swizzle c =
    let r = c.short_bits-ones.result in
    rw (c.row_of-row.ensures short_row short_rows_are) (row_ok (short_places 0 8 r) (short_rows_fit r c.short_bits-ones.ensures.within).0)

pub returns-clause-written : goal.returns-clause-written
unfolding short_row
returns-clause-written c =
    let r = c.short_bits-ones.result in
    let text = short_text_of_eight c.args.units c.fits-units.0 c.fits-units.1 c.requires.short in
    let fit = short_rows_fit r c.short_bits-ones.ensures.within in
    let row_is = c.row_of-row.ensures short_row short_rows_are in
    let written = row_written (short_places 0 8 r) fit.0 (short_lanes c.args.units) (omega (arith, fit.1)) in
    grind arith
