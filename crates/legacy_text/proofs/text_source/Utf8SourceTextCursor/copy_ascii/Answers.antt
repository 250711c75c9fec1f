use Rattle.std.proofs.{Common.{arith, length-drop}, lemmas.List.take_rest}
use Rattle.legacy_text.proofs.Texts.{ascii_steps, utf8_ascii}
use Rattle.legacy_text.proofs.text_source.Utf8SourceTextCursor.copy_ascii.Goals as goal

pub returns : goal.returns
returns c = grind (arith, ascii_steps)

pub invariant_of-self : goal.invariant_of-self
invariant_of-self c =
    let s = c.args.self.now in
    let e = rw (c.as_bytes.ensures.value, take_rest s.text.now s.place) at c.copy_ascii_bytes-count.ensures in
    record {
      in_range = omega (arith, e.read, length-drop s.place s.text.now);
      is_text = (utf8_ascii s.text.now s.place _ e.read e.ascii s.is_text).1;
    }
