use Rattle.std.proofs.Common.{arith}
use Rattle.legacy_single_byte.proofs.single_byte.scalars.ByteScalars.utf8_entry.Goals as goal

pub returns : goal.returns
returns c = λ e is. rw (is.1 c.requires, ← c.from.ensures) (c.args.self.now.same_utf8 c.from.result (omega arith))
