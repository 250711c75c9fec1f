use Rattle.std.proofs.Common.{ap}
use Rattle.legacy_tables.specs.AcceptedTables.{AcceptedTable}
use Rattle.legacy_tables.proofs.AcceptedTable.{position-idx}
use Rattle.legacy_tables.proofs.single_byte_table.SingleByteTable.place.Goals as goal

pub returns : goal.returns
returns c place =
    let same = ap (λ (t : AcceptedTable). t.entries) c.self.view_is in
    let is = rw (c.from.ensures, same) at c.place_of.ensures in
    rw is (position-idx c.args.self.now.entries c.args.self.now.accepted c.args.c c.if-c-eq0.false place)
