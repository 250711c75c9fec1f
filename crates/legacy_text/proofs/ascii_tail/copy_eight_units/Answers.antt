use Rattle.std.proofs.Common.{arith, ◌-◌}
use Rattle.legacy_text.proofs.AsciiTail.{ascii_back}
use Rattle.legacy_text.proofs.ascii_tail.copy_eight_units.Goals as goal

pub returns-clause-ascii : goal.returns-clause-ascii
returns-clause-ascii c =
    let first = c.store_eight_units-count.ensures in
    ascii_back c.args.units.now (c.args.end - 8) c.store_eight_units-count.result _ (omega (arith, c.requires.most, c.if-count-lt8.false, first.count)) first.ascii
    c.store_eight_units.ensures.ascii
