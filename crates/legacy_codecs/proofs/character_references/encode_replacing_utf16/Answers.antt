use Rattle.std.proofs.Common.{arith}
use Rattle.legacy_text.proofs.Texts.{utf16_read, unit_boundary}
use Rattle.legacy_codecs.proofs.character_references.encode_replacing_utf16.Goals as goal

pub returns : goal.returns
returns g c =
    let call = rw (c.new-source.ensures.units, c.new-source.ensures.place) at c.encode_replacing-answer.ensures.call in
    let passed = rw (c.new-source.ensures.units, c.new-source.ensures.place) at c.encode_replacing-answer.ensures.passed in
    let cut = utf16_read c.args.src.now call.taken _ c.encode_replacing-answer.new.src.place (λ i. let f = c.type_inv.src i in omega arith) call.cut passed in
    record {
      call = rw (c.consumed.ensures, cut.left_is) call;
      boundary = rw c.consumed.ensures (unit_boundary _ _ _ cut);
      written = c.encode_replacing-answer.ensures.written;
    }
