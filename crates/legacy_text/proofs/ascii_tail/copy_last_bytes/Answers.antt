use Rattle.std.proofs.Common.{arith}
use Rattle.legacy_text.proofs.AsciiTail.{ascii_back}
use Rattle.legacy_text.proofs.ascii_tail.copy_last_bytes.Goals as goal

pub returns-then-end-ge16-clause-ascii : goal.returns-then-end-ge16-clause-ascii
returns-then-end-ge16-clause-ascii c =
    ascii_back c.args.bytes.now c.min-back.result c.args.copied _ (omega arith) c.requires.ascii c.store_front.ensures.ascii
