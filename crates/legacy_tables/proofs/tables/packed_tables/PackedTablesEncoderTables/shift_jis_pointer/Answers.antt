use Rattle.std.proofs.Common.{◌∙◌}
use Rattle.legacy_tables.proofs.PointerBounds.{shift-jis-bound}
use Rattle.legacy_tables.proofs.tables.packed_tables.PackedTablesEncoderTables.shift_jis_pointer.Goals as goal

pub returns : goal.returns
returns c =
    let is = c.pointer_in_order.ensures ∙ c.self.inside.ordered.shift_jis.answers c.args.scalar in
    rw (← c.self.view_is) (record { pointer = is; within = rw is (shift-jis-bound _ c.self.inside.accepted c.args.scalar) })
