use Rattle.legacy_decoder_engine.proofs.JoinedReads.{reads_more}
use Rattle.legacy_decoder_engine.proofs.lane_blocks.read_flat.Goals as goal

pub returns-then-not-goes_on : goal.returns-then-not-goes_on
returns-then-not-goes_on g c = rw c.new-forms.ensures at c.read_nearby-read.ensures

pub returns : goal.returns
returns g c = rw c.new-forms.ensures at (reads_more c.read_nearby-read.ensures c.read_lent.ensures)
