use Rattle.std.proofs.{Common.{arith, take}, lemmas.List.{length-take-le, get_or-take}}
use Rattle.legacy_text.proofs.{Ascii.{ascii_front, lowest_past, put_slice}, AsciiTail.all_front}
use Rattle.legacy_text.proofs.ascii_tail.store_four.Goals as goal

pub returns-then-past-eq0-clause-ascii : goal.returns-then-past-eq0-clause-ascii
returns-then-past-eq0-clause-ascii c = all_front 4 c.args.bytes.now (omega arith) c.requires.block c.if-past-eq0.true

pub returns-then-past-eq0-clause-stored : goal.returns-then-past-eq0-clause-stored
returns-then-past-eq0-clause-stored c = put_slice c.args.at 4 4 c.args.dst.now c.args.bytes.now c.requires.room c.requires.block (omega arith)

pub returns-clause-ascii : goal.returns-clause-ascii
returns-clause-ascii c =
    let low = lowest_past 4 (take 4 c.args.bytes.now) (omega arith) (length-take-le 4 c.args.bytes.now c.requires.block) c.if-past-eq0.false in
    ascii_front c.args.bytes.now _ (λ k h. rw (get_or-take 4 c.args.bytes.now k 0 (omega arith)) at (low.2 k (omega arith)))

pub returns-clause-stored : goal.returns-clause-stored
returns-clause-stored c = put_slice c.args.at 4 _ c.args.dst.now c.args.bytes.now c.requires.room c.requires.block (omega arith)
