use Rattle.std.proofs.Common.{arith}
use Rattle.legacy_codecs.proofs.ReferenceTexts.{front_of_part}
use Rattle.legacy_streams.proofs.lines.store_line.Goals as goal

pub returns : goal.returns
returns c = rw c.copy_from_slice.ensures.after (front_of_part c.args.at _ 7 c.args.bytes.now c.args.line (omega arith) (omega arith))
