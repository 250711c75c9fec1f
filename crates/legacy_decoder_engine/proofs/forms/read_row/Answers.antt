use Rattle.legacy_decoder_engine.proofs.{JoinedReads.{reads_more}, WrittenReads.{reads_none}}
use Rattle.legacy_decoder_engine.proofs.forms.read_row.Goals as goal

pub loop-at-preserved : goal.loop-at-preserved
loop-at-preserved g c = reads_more c.loop-at.invariant c.read_four-read.ensures.ahead

pub returns-then-not-goes_on : goal.returns-then-not-goes_on
returns-then-not-goes_on g c = record { ahead = reads_more c.loop-at.invariant c.read_four-read.ensures.ahead }

pub loop-at-init : goal.loop-at-init
loop-at-init g c = reads_none g.T.Destination _ _ _
