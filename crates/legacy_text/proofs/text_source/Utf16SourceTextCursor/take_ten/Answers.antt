use Rattle.std.proofs.Common.{arith}
use Rattle.legacy_text.proofs.text_source.Utf16SourceTextCursor.take_ten.Goals as goal

pub overflow_add-self : goal.overflow_add-self
overflow_add-self c = omega arith

pub overflow_sub-self : goal.overflow_sub-self
overflow_sub-self c = omega arith
