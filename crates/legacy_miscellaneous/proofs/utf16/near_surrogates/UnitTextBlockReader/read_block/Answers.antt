use Rattle.legacy_decoder_engine.proofs.JoinedReads.{reads_more}
use Rattle.legacy_miscellaneous.proofs.utf16.near_surrogates.UnitTextBlockReader.read_block.Goals as goal

pub returns-clause-ahead : goal.returns-clause-ahead
returns-clause-ahead g c = reads_more c.read_near_surrogates-near.ensures.ahead c.read_rest-read.ensures.ahead
