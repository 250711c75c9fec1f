use Rattle.legacy_decoder_engine.proofs.WrittenReads.{reads_none}
use Rattle.legacy_miscellaneous.proofs.utf16.unit_blocks.Units.read_eight.Goals as goal

pub returns-then-src-lt16 : goal.returns-then-src-lt16
returns-then-src-lt16 g c = reads_none g.T.Destination _ c.args.src.now c.args.dst.now
