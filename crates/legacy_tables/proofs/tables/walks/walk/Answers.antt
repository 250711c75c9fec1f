use Rattle.std.proofs.Common.{◌-◌, arith}
use Rattle.legacy_tables.proofs.Walks.{none-filled, filled-gap, all-filled}
use Rattle.legacy_tables.proofs.tables.walks.walk.Goals as goal

pub loop-pointer-init : goal.loop-pointer-init
loop-pointer-init g c =
    grind (arith, none-filled c.args.part g.M.Marks.mark g.met.M.Marks.some (g.N.Numbers.numbers c.args.index.now), g.N.Numbers.begins c.args.index.now)

pub loop-pointer-preserved : goal.loop-pointer-preserved
loop-pointer-preserved g c =
    let gap = filled-gap c.args.part g.M.Marks.mark g.met.M.Marks.some (g.N.Numbers.numbers c.args.index.now) c.loop-pointer.pointer
    (c.row-row.result.pointer - c.loop-pointer.pointer) in
    grind (arith, gap, c.row-row.ensures.gap, c.take_row.ensures (g.N.Numbers.numbers c.args.index.now))

pub returns : goal.returns
returns g c = grind (arith, all-filled c.args.part g.M.Marks.mark g.met.M.Marks.some (g.N.Numbers.numbers c.args.index.now) c.loop-pointer.entries)
