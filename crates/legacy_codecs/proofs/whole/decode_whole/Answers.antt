use Rattle.std.proofs.Common.{◌≡◌, ◌∙◌, take, arith, sym, ap, subst}
use Rattle.std.specs.Str.{chars, IsUtf8}
use Rattle.legacy_codecs.proofs.WholePieces.{whole_with_room, front_of_buffer}
use Rattle.legacy_codecs.proofs.whole.decode_whole.Goals as goal

pub unwrap-requires : goal.unwrap-requires
unwrap-requires g c =
    let whole = whole_with_room c.decode_replacing_utf8-written.ensures.call c.in-Some.length (sym c.max_utf8_buffer_length.ensures ∙ c.in-Some.is)
    (omega (arith, c.as_mut_slice.ensures.len, c.in-Ok.ensures.len)) in
    let items : c.truncate.new.self.items ≡ take c.decode_replacing_utf8-written.result.2 c.decode_replacing_utf8-written.new.dst =
    c.truncate.ensures.items ∙ front_of_buffer _ _ _ _ c.decode_replacing_utf8-written.ensures.written (omega (arith, c.as_mut_slice.ensures.len)) in
    c.from_utf8.ensures.succeeds (subst IsUtf8 (sym items) whole.0)

pub returns-clause-text : goal.returns-clause-text
returns-clause-text g c =
    let whole = whole_with_room c.decode_replacing_utf8-written.ensures.call c.in-Some.length (sym c.max_utf8_buffer_length.ensures ∙ c.in-Some.is)
    (omega (arith, c.as_mut_slice.ensures.len, c.in-Ok.ensures.len)) in
    let items : c.truncate.new.self.items ≡ take c.decode_replacing_utf8-written.result.2 c.decode_replacing_utf8-written.new.dst =
    c.truncate.ensures.items ∙ front_of_buffer _ _ _ _ c.decode_replacing_utf8-written.ensures.written (omega (arith, c.as_mut_slice.ensures.len)) in
    let same = rw c.unwrap.ensures at c.from_utf8.ensures.ok in
    ap (λ v. chars v.items) same ∙ ap chars items ∙ whole.1

pub returns-clause-end : goal.returns-clause-end
returns-clause-end g c =
    let whole = whole_with_room c.decode_replacing_utf8-written.ensures.call c.in-Some.length (sym c.max_utf8_buffer_length.ensures ∙ c.in-Some.is)
    (omega (arith, c.as_mut_slice.ensures.len, c.in-Ok.ensures.len)) in
    whole.2

pub returns-clause-call : goal.returns-clause-call
returns-clause-call g c =
    let whole = whole_with_room c.decode_replacing_utf8-written.ensures.call c.in-Some.length (sym c.max_utf8_buffer_length.ensures ∙ c.in-Some.is)
    (omega (arith, c.as_mut_slice.ensures.len, c.in-Ok.ensures.len)) in
    let items : c.truncate.new.self.items ≡ take c.decode_replacing_utf8-written.result.2 c.decode_replacing_utf8-written.new.dst =
    c.truncate.ensures.items ∙ front_of_buffer _ _ _ _ c.decode_replacing_utf8-written.ensures.written (omega (arith, c.as_mut_slice.ensures.len)) in
    let same = rw c.unwrap.ensures at c.from_utf8.ensures.ok in
    (whole.3, rw (ap (λ v. v.items) same ∙ items) whole.4)
