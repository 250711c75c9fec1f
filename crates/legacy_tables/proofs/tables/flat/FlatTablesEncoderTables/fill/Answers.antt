use Rattle.std.proofs.Common.{subst}
use Rattle.legacy_tables.specs.{AcceptedTables.AcceptedIndexes, Walks.{IsFilled, order_index}}
use Rattle.legacy_tables.proofs.Accepted.{order_index-short}
use Rattle.legacy_tables.proofs.tables.flat.FlatTablesEncoderTables.fill.Goals as goal

pub returns : goal.returns
returns g c =
    subst (λ (view : AcceptedIndexes). IsFilled c.args.part g.M.Marks.mark (order_index view.flat c.args.part) c.fill.new.entries) c.self.view_is
    (c.fill.ensures (order_index-short _ c.self.inside.accepted c.args.part))
