use Rattle.legacy_text.proofs.Texts.{utf8_read}
use Rattle.legacy_codecs.proofs.character_references.encode_replacing_utf8.Goals as goal

pub returns : goal.returns
returns g c =
    let call = rw (c.new-source.ensures.text, c.new-source.ensures.place) at c.encode_replacing-answer.ensures.call in
    let passed = rw (c.new-source.ensures.text, c.new-source.ensures.place) at c.encode_replacing-answer.ensures.passed in
    let cut = utf8_read c.args.src.now call.taken _ c.encode_replacing-answer.new.src.place c.utf8.src call.cut passed in
    record {
      call = rw (c.consumed.ensures, cut.left_is) call;
      boundary = rw c.consumed.ensures cut.boundary;
      written = c.encode_replacing-answer.ensures.written;
    }
