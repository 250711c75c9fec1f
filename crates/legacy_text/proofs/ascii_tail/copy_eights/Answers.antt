use Rattle.std.proofs.Common.{arith, ◌-◌}
use Rattle.legacy_text.proofs.AsciiTail.{ascii_back}
use Rattle.legacy_text.proofs.ascii_tail.copy_eights.Goals as goal

pub returns-clause-ascii : goal.returns-clause-ascii
returns-clause-ascii c =
    let first = c.store_eight-count.ensures in
    ascii_back c.args.bytes.now (c.args.end - 8) c.store_eight-count.result _ (omega (arith, c.requires.most, c.if-count-lt8.false, first.count)) first.ascii
    c.store_eight.ensures.ascii
