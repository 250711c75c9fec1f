use Rattle.{legacy_decoder_engine.proofs.WrittenReads.reads_none, legacy_single_byte.proofs.SingleByteAhead.reads_padded}
use Rattle.legacy_single_byte.proofs.single_byte.blocks.read_last.Goals as goal

pub returns-then-src-gt64 : goal.returns-then-src-gt64
returns-then-src-gt64 g c = reads_none g.T.Destination _ c.args.src.now c.args.dst.now

pub returns : goal.returns
returns g c = reads_padded c.read_parts.ensures.most c.copy_last.ensures c.read_parts.ensures.ahead
