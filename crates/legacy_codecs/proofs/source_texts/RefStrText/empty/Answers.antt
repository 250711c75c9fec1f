use Rattle.std.proofs.lemmas.Str.{chars-nil}
use Rattle.legacy_codecs.proofs.source_texts.RefStrText.empty.Goals as goal

pub returns : goal.returns
returns c = chars-nil
