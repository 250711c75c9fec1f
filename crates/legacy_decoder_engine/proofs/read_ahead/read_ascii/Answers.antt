use Rattle.legacy_decoder_engine.proofs.JoinedReads.{reads_more}
use Rattle.legacy_decoder_engine.proofs.WrittenReads.{reads_none}
use Rattle.legacy_decoder_engine.proofs.read_ahead.read_ascii.Goals as goal

pub returns-clause-ahead : goal.returns-clause-ahead
returns-clause-ahead g c grammar law = reads_more (c.read_wide_blocks-front.ensures.ahead grammar law) (c.read_short_blocks.ensures.ahead grammar law)

pub returns-then-src-ge128-clause-ahead : goal.returns-then-src-ge128-clause-ahead
returns-then-src-ge128-clause-ahead g c = λ grammar law. reads_none g.T.Destination _ _ _
