use Rattle.legacy_decoder_engine.proofs.{JoinedReads.{reads_more}, WrittenReads.{reads_none}}
use Rattle.legacy_decoder_engine.proofs.forms.read_last.Goals as goal

pub loop-at-preserved : goal.loop-at-preserved
loop-at-preserved g c = reads_more c.loop-at.invariant c.read_one-read.ensures

pub returns-then-read-eq0 : goal.returns-then-read-eq0
returns-then-read-eq0 g c = reads_more c.loop-at.invariant c.read_one-read.ensures

pub loop-at-init : goal.loop-at-init
loop-at-init g c = reads_none g.T.Destination _ _ _
