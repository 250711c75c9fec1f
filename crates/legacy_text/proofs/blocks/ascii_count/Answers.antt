use Rattle.legacy_text.proofs.Ascii.{count_steps, no_past, ascii_front, lowest_past}
use Rattle.std.proofs.Common.{arith}
use Rattle.legacy_text.proofs.blocks.ascii_count.Goals as goal

pub returns-then-past-eq0-clause-ascii : goal.returns-then-past-eq0-clause-ascii
returns-then-past-eq0-clause-ascii c = ascii_front c.args.block 16 (λ k l. no_past c.args.block c.fits-block.0 c.if-past-eq0.true k)

pub returns-clause-ascii : goal.returns-clause-ascii
returns-clause-ascii c =
    let low = lowest_past 16 c.args.block (omega arith) c.fits-block.0 c.if-past-eq0.false in
    ascii_front c.args.block _ (λ k l. low.2 k (omega arith))

pub returns-clause-stops : goal.returns-clause-stops
returns-clause-stops c = grind (arith, count_steps)
