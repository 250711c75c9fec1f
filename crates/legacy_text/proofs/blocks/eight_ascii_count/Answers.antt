use Rattle.legacy_text.proofs.Ascii.{ascii_front, lowest_past, none_past}
use Rattle.std.proofs.Common.{arith}
use Rattle.legacy_text.proofs.blocks.eight_ascii_count.Goals as goal

pub returns-then-past-eq0-clause-ascii : goal.returns-then-past-eq0-clause-ascii
returns-then-past-eq0-clause-ascii c = ascii_front c.args.block 8 (λ k l. none_past 8 c.args.block (omega arith) c.fits-block.0 c.if-past-eq0.true k)

pub returns-clause-ascii : goal.returns-clause-ascii
returns-clause-ascii c =
    let low = lowest_past 8 c.args.block (omega arith) c.fits-block.0 c.if-past-eq0.false in
    ascii_front c.args.block _ (λ k l. low.2 k (omega arith))
