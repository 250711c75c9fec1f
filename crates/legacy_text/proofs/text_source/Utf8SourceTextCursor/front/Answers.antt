use Rattle.std.proofs.Common.{arith}
use Rattle.legacy_text.proofs.Texts.{next_steps}
use Rattle.legacy_text.proofs.text_source.Utf8SourceTextCursor.front.Goals as goal

pub returns-in-None : goal.returns-in-None
returns-in-None c = grind (arith, next_steps)

pub returns-in-Some : goal.returns-in-Some
returns-in-Some c = grind (arith, next_steps)
