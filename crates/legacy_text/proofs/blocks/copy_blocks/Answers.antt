use Rattle.std.proofs.{Common.arith, lemmas.List.take_rest}
use Rattle.legacy_text.proofs.Ascii.{ascii_after, stored_next, ascii_before, stored_before}
use Rattle.legacy_text.proofs.blocks.copy_blocks.Goals as goal

pub returns-then-count-width-clause-ascii : goal.returns-then-count-width-clause-ascii
returns-then-count-width-clause-ascii c =
    let i = c.loop-copied.invariant in
    let a = c.args in
    let ascii = ascii_before a.bytes.now c.loop-copied.copied c.min-from.result (omega arith) i.1 in
    ascii_after _ _ _ ascii (rw (take_rest a.bytes.now c.min-from.result) at c.store_front-count.ensures.ascii)

pub returns-then-count-width-clause-stored : goal.returns-then-count-width-clause-stored
returns-then-count-width-clause-stored c =
    let i = c.loop-copied.invariant in
    let a = c.args in
    let stored = stored_before a.dst.now c.loop-copied.dst a.bytes.now a.at c.loop-copied.copied c.min-from.result (omega arith) (omega arith) i.2 in
    stored_next c.loop-copied.dst _ _ a.bytes.now a.at c.min-from.result _ stored
    (rw (take_rest a.bytes.now c.min-from.result) at c.store_front-count.ensures.stored)

pub loop-copied-preserved : goal.loop-copied-preserved
loop-copied-preserved c =
    let i = c.loop-copied.invariant in
    let a = c.args in
    let ascii = ascii_before a.bytes.now c.loop-copied.copied c.min-from.result (omega arith) i.1 in
    let stored = stored_before a.dst.now c.loop-copied.dst a.bytes.now a.at c.loop-copied.copied c.min-from.result (omega arith) (omega arith) i.2 in (
      omega arith,
      ascii_after _ _ _ ascii (rw (take_rest a.bytes.now c.min-from.result) at c.store_front-count.ensures.ascii),
      stored_next c.loop-copied.dst _ _ a.bytes.now a.at c.min-from.result _ stored
          (rw (take_rest a.bytes.now c.min-from.result) at c.store_front-count.ensures.stored),
    )
