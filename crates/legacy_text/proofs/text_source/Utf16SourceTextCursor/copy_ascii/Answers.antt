use Rattle.std.proofs.Common.{arith}
use Rattle.legacy_text.proofs.Texts.{ascii_steps}
use Rattle.legacy_text.proofs.text_source.Utf16SourceTextCursor.copy_ascii.Goals as goal

pub returns : goal.returns
returns c = grind (arith, ascii_steps)
