use Rattle.std.proofs.Common.{arith}
use Rattle.legacy_text.proofs.source.ByteSource.advance.Goals as goal

pub overflow_add-self : goal.overflow_add-self
overflow_add-self c = omega arith
