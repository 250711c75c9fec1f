use Rattle.std.proofs.Common.{arith, ◌-◌}
use Rattle.legacy_text.proofs.AsciiTail.{ascii_back}
use Rattle.legacy_text.proofs.ascii_tail.copy_fours.Goals as goal

pub returns-clause-ascii : goal.returns-clause-ascii
returns-clause-ascii c =
    let first = c.store_four-count.ensures in
    ascii_back c.args.bytes.now (c.args.end - 4) c.store_four-count.result _ (omega (arith, c.requires.most, c.if-count-lt4.false, first.count)) first.ascii
    c.store_four.ensures.ascii
