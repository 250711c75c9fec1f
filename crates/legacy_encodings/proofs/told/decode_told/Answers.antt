use Rattle.std.proofs.Common.{◌≡◌, ◌∙◌, take, arith, sym, ap, subst}
use Rattle.std.specs.Str.{chars, IsUtf8}
use Rattle.legacy_codecs.proofs.WholePieces.{whole_with_room, front_of_buffer}
use Rattle.legacy_encodings.proofs.Replaced.{found_with_room}
use Rattle.legacy_encodings.proofs.told.decode_told.Goals as goal

pub unwrap-requires : goal.unwrap-requires
unwrap-requires g c =
    let whole = whole_with_room c.decode_replacing_utf8-written.ensures.call c.in-Some.length (sym c.max_utf8_buffer_length.ensures ∙ c.in-Some.is)
    (omega (arith, c.as_mut_slice.ensures.len, c.in-Ok.ensures.len)) in
    let items : c.truncate.new.self.items ≡ take c.decode_replacing_utf8-written.result.2 c.decode_replacing_utf8-written.new.dst =
    c.truncate.ensures.items ∙ front_of_buffer _ _ _ _ c.decode_replacing_utf8-written.ensures.written (omega (arith, c.as_mut_slice.ensures.len)) in
    c.from_utf8.ensures.succeeds (subst IsUtf8 (sym items) whole.0)

pub returns-clause-text : goal.returns-clause-text
returns-clause-text g c =
    let whole = whole_with_room c.decode_replacing_utf8-written.ensures.call c.in-Some.length (sym c.max_utf8_buffer_length.ensures ∙ c.in-Some.is)
    (omega (arith, c.as_mut_slice.ensures.len, c.in-Ok.ensures.len)) in
    let items : c.truncate.new.self.items ≡ take c.decode_replacing_utf8-written.result.2 c.decode_replacing_utf8-written.new.dst =
    c.truncate.ensures.items ∙ front_of_buffer _ _ _ _ c.decode_replacing_utf8-written.ensures.written (omega (arith, c.as_mut_slice.ensures.len)) in
    let same = rw c.unwrap.ensures at c.from_utf8.ensures.ok in
    ap (λ v. chars v.items) same ∙ ap chars items ∙ whole.1

pub returns-clause-told : goal.returns-clause-told
returns-clause-told g c =
    found_with_room c.decode_replacing_utf8-written.ensures.call c.in-Some.length (sym c.max_utf8_buffer_length.ensures ∙ c.in-Some.is)
    (omega (arith, c.as_mut_slice.ensures.len, c.in-Ok.ensures.len))
