use Rattle.std.proofs.{Common.{ap, map}, lemmas.Str.utf16_chars-nil}
use Rattle.legacy_codecs.proofs.source_texts.RefSliceU16Text.empty.Goals as goal

pub returns : goal.returns
returns c = ap (map _) utf16_chars-nil
