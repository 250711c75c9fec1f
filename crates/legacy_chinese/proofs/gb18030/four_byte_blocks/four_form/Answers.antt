use Rattle.std.proofs.Common.{sym}
use Rattle.legacy_chinese.proofs.FourPlaces.{four_at}
use Rattle.legacy_chinese.proofs.gb18030.four_byte_blocks.four_form.Goals as goal

pub returns-in-Some : goal.returns-in-Some
returns-in-Some c =
    let a = c.args in
    four_at a.tables.now c.ranges-2.result.list.now c.four_pointer-pointer.result a.first a.second a.third a.fourth c.in-Some.scalar c.ranges-2.ensures
    c.four_pointer-pointer.ensures.place (sym c.in-Some.ensures)
