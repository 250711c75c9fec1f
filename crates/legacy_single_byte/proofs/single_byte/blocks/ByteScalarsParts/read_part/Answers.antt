use Rattle.legacy_decoder_engine.proofs.JoinedReads.{reads_more}
use Rattle.legacy_single_byte.proofs.single_byte.blocks.ByteScalarsParts.read_part.Goals as goal

pub returns-clause-ahead : goal.returns-clause-ahead
returns-clause-ahead g c = reads_more c.read_parts-front.ensures.ahead c.read_parts-read.ensures.ahead
