use Rattle.std.proofs.Common.{◌+◌, arith}
use Rattle.legacy_tables.proofs.Walks.{filled-more}
use Rattle.legacy_tables.proofs.tables.walks.take_row.Goals as goal

pub loop-at-preserved : goal.loop-at-preserved
loop-at-preserved g c = λ index has filled.
    let n = c.args.row.pointer + c.loop-at.at in
    let more = filled-more c.args.part g.M.Marks.mark g.met.M.Marks.some index n
    (c.args.row.scalar + c.loop-at.at) n c.loop-at.entries c.take_pointer.new.entries in
    grind (arith, more, c.loop-at.invariant index has filled, has)

pub returns : goal.returns
returns g c = grind (arith, c.loop-at.invariant)
