use Rattle.std.proofs.Common.{◌≡◌, ◌∙◌, ◌++◌, arith, sym, ap}
use Rattle.std.proofs.lemmas.{List.{take-append-drop, drop_all}, Slice.between_from_start, Str.{chars-append, chars-nil}}
use Rattle.std.specs.Str.{chars}
use Rattle.legacy_exports.proofs.TextCuts.{chars_over, no_bytes, no_piece}
use Rattle.legacy_exports.proofs.source_texts.RefStrText.cut.Goals as goal

pub returns-clause-parts : goal.returns-clause-parts
returns-clause-parts c =
    let text = c.args.self.now in
    let front = c.range.ensures.value ∙ between_from_start text c.loop-end.end in
    let all : text ≡ c.range.result.now ++ c.range_from-later.result.now =
    rw (front, c.range_from-later.ensures.value) (sym (take-append-drop c.loop-end.end text)) in
    ap chars all ∙ chars-append c.range.result.now c.range_from-later.result.now c.range.utf8

pub returns-clause-some : goal.returns-clause-some
returns-clause-some c e =
    let text = c.args.self.now in
    let i = c.loop-end.invariant in
    let none = sym (c.range.ensures.value ∙ between_from_start text c.loop-end.end) ∙ no_bytes c.range.result.now c.range.utf8 e in
    ap chars (no_piece text c.loop-end.end i.within i.some none) ∙ chars-nil

pub returns-clause-whole : goal.returns-clause-whole
returns-clause-whole c e =
    let end = c.loop-end.invariant.whole e in
    ap chars (c.range_from-later.ensures.value ∙ drop_all c.loop-end.end c.args.self.now (omega (arith, end))) ∙ chars-nil

pub returns-clause-is_over : goal.returns-clause-is_over
returns-clause-is_over c = rw c.is_empty.ensures (chars_over c.range_from-later.result.now c.range_from-later.utf8)
