use Rattle.std.proofs.Common.{◌≡◌, arith, Some, slice_get}
use Rattle.legacy_text.specs.Texts.{unit_scalars}
use Rattle.legacy_streams.proofs.FourDigitLines.{first_line, first_units, none_after}
use Rattle.legacy_streams.proofs.lines.LineBuffer.push_first.Goals as goal

pub returns-in_default-clause-text : goal.returns-in_default-clause-text
returns-in_default-clause-text c = grind (arith, none_after)

pub returns-clause-count : goal.returns-clause-count
returns-clause-count c =
    let e : Some c.in-Some.scalar ≡ slice_get (unit_scalars c.args.units.now) 0 = rw (c.new.ensures.place, c.new.ensures.units) at c.in-Some.ensures in
    let first = first_units c.args.units.now c.in-Some.scalar c.len_utf16.result (λ i. omega (arith, c.type_inv.units i)) c.requires.some e
    c.len_utf16.ensures.bmp c.len_utf16.ensures.surrogate_pair in
    (first.some, first.within)

pub returns-clause-text : goal.returns-clause-text
returns-clause-text c = grind (arith, first_units, first_line)
