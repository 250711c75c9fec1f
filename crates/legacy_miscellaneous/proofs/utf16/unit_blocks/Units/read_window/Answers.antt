use Rattle.legacy_decoder_engine.proofs.JoinedReads.{reads_more}
use Rattle.legacy_miscellaneous.proofs.utf16.unit_blocks.Units.read_window.Goals as goal

pub returns-clause-ahead : goal.returns-clause-ahead
returns-clause-ahead g c = reads_more c.read_first-front.ensures.ahead c.read_pair-read.ensures
