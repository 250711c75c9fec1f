use Rattle.{std.proofs.Common.arith, legacy_decoder_engine.proofs.WrittenReads.reads_none}
use Rattle.legacy_miscellaneous.proofs.Utf16Ahead.{ascii_block, reads_block}
use Rattle.legacy_miscellaneous.proofs.utf16.unit_blocks.AsciiUnits.read_whole.Goals as goal

pub put_block-requires-clause-ascii : goal.put_block-requires-clause-ascii
put_block-requires-clause-ascii g c = ascii_block _ _ _ 64 c.narrow.ensures (c.are_below.ensures c.if-not-are_below.false) (omega arith)

pub returns-then-not-are_below : goal.returns-then-not-are_below
returns-then-not-are_below g c = record { ahead = reads_none g.T.Destination _ c.args.src.now c.args.dst.now; goes_on = λ h. cc }

pub returns : goal.returns
returns g c =
    let e = c.put_block.ensures in
    let ascii = ascii_block _ _ _ 64 c.narrow.ensures (c.are_below.ensures c.if-not-are_below.false) (omega arith) in
    record {
      ahead = reads_block _ _ _ _ _ _ 64 (λ k. (c.type_inv.src k).fits) (omega arith) c.narrow.ensures (omega arith)
          ascii e.contents e.room e.loan (omega arith) (omega arith);
      goes_on = λ h. omega arith;
    }
