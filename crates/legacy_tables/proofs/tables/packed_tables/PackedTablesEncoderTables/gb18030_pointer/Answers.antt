use Rattle.std.proofs.Common.{◌∙◌}
use Rattle.legacy_tables.proofs.PointerBounds.{gb18030-bound}
use Rattle.legacy_tables.proofs.tables.packed_tables.PackedTablesEncoderTables.gb18030_pointer.Goals as goal

pub returns : goal.returns
returns c =
    let is = c.pointer_in_order.ensures ∙ c.self.inside.ordered.gb18030.answers c.args.scalar in
    rw (← c.self.view_is) (record { pointer = is; within = rw is (gb18030-bound _ c.self.inside.accepted c.args.scalar) })
