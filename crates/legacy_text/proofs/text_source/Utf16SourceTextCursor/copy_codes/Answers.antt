use Rattle.std.proofs.{Common.arith, lemmas.List.take_rest}
use Rattle.legacy_text.proofs.Texts.{bmp_front, bmp_count, bmp_writes}
use Rattle.legacy_text.proofs.text_source.Utf16SourceTextCursor.copy_codes.Goals as goal

pub returns : goal.returns
returns g c =
    let s = c.args.self.now in
    let e = rw (take_rest s.units.now s.place) at c.copy_unit_codes-count.ensures in
    let n = c.copy_unit_codes-count.result in
    grind (arith, bmp_front _ s.place n e.read e.bmp, bmp_count _ s.place n s.are_units e.read e.bmp, bmp_writes _ s.place n s.are_units e.read e.bmp)
