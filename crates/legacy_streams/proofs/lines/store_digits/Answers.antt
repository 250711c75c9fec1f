use Rattle.std.proofs.Common.{arith}
use Rattle.legacy_codecs.proofs.ReferenceTexts.{front_of_part}
use Rattle.legacy_streams.proofs.lines.store_digits.Goals as goal

pub returns : goal.returns
returns c = λ n few. rw c.copy_from_slice.ensures.after (front_of_part c.args.at _ n c.args.bytes.now c.args.digits (omega arith) (omega (arith, few)))
