use Rattle.std.proofs.Common.{◌∙◌}
use Rattle.legacy_tables.proofs.PointerBounds.{euc-jp-bound}
use Rattle.legacy_tables.proofs.tables.packed_tables.PackedTablesEncoderTables.euc_jp_pointer.Goals as goal

pub returns : goal.returns
returns c =
    let is = c.pointer_in_order.ensures ∙ c.self.inside.ordered.euc_jp.answers c.args.scalar in
    rw (← c.self.view_is) (record { pointer = is; within = rw is (euc-jp-bound c.args.scalar _) })
