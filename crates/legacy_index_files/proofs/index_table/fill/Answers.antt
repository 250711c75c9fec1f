use Rattle.std.proofs.Common.{◌∙◌, sym}
use Rattle.legacy_index_files.proofs.IndexValues.{fills_line}
use Rattle.std.proofs.{Common.arith, lemmas.Grind.common_steps}
use Rattle.legacy_index_files.proofs.index_table.fill.Goals as goal

pub loop-rest-preserved-in-Entry : goal.loop-rest-preserved-in-Entry
loop-rest-preserved-in-Entry g c =
    let all = g.met.E.Entry.all c.loop-rest.values in
    let step = fills_line c.args.name c.split_line.result.0.now c.loop-rest.rest.now c.split_line.result.1.now (g.E.Entry.numbers c.loop-rest.values)
    c.in-Entry.pointer c.in-Entry.value c.split_line.ensures.first c.in-Entry.ensures.says (rw (sym all) at c.loop-rest.invariant.room) in
    record {
      room = rw c.put.auto.entries (rw all at step.room);
      at_each = λ p within. rw c.put.ensures (step.at_each p ∙ c.loop-rest.invariant.at_each p (rw c.put.auto.entries at within));
    }

pub loop-rest-preserved : goal.loop-rest-preserved
loop-rest-preserved g c = grind (arith, common_steps)

pub returns : goal.returns
returns g c = grind (arith, common_steps)
