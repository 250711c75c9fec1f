use Rattle.std.proofs.{Common.{◌∙◌, ◌+◌, ◌-◌, arith}, lemmas.List.ext_get_or}
use Rattle.legacy_tables.proofs.tables.unpacking.write.Goals as goal

pub loop-pointer-init : goal.loop-pointer-init
loop-pointer-init g c = grind (arith, c.clear.ensures, g.N.Numbers.begins c.args.index.now)

pub write_row-requires-clause-small : goal.write_row-requires-clause-small
write_row-requires-clause-small g c =
    let last = c.row-row.result.count - 1 in
    grind (arith, c.row-row.ensures.numbers last, c.requires.small (c.row-row.result.pointer + last))

pub loop-pointer-preserved : goal.loop-pointer-preserved
loop-pointer-preserved g c =
    let row = c.row-row.ensures in
    let done = c.write_row.ensures in
    let at = c.loop-pointer.invariant in
    record {
      within = row.within;
      written = λ k h.
          let past = k - c.row-row.result.pointer in
          grind (arith, row.gap k, row.numbers past, done.before k, done.row past, at.written k, at.none k);
      none = λ k l. done.after k l ∙ at.none k (omega arith);
      at = row.place;
    }

pub returns : goal.returns
returns g c =
    grind (arith, g.met.E.Entry.all c.loop-pointer.entries, ext_get_or 0 (g.E.Entry.numbers c.loop-pointer.entries) (g.N.Numbers.numbers c.args.index.now))
