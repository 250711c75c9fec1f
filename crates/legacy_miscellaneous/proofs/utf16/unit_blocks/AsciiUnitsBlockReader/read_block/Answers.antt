use Rattle.{std.proofs.Common.arith, legacy_decoder_engine.proofs.WrittenReads.reads_none}
use Rattle.legacy_miscellaneous.proofs.Utf16Ahead.{reads_block}
use Rattle.legacy_miscellaneous.proofs.utf16.unit_blocks.AsciiUnitsBlockReader.read_block.Goals as goal

pub returns-then-src-lt32 : goal.returns-then-src-lt32
returns-then-src-lt32 g c = record { ahead = reads_none g.T.Destination _ c.args.src.now c.args.dst.now; goes_on = λ h. cc }

pub returns-clause-ahead : goal.returns-clause-ahead
returns-clause-ahead g c =
    let e = c.copy_ascii-count.ensures in
    reads_block _ _ _ _ _ _ c.copy_ascii-count.result (λ k. (c.type_inv.src k).fits) (omega arith) c.narrow.ensures (omega arith)
    e.ascii e.contents e.room e.loan (omega arith) (omega arith)
