use Rattle.legacy_japanese.proofs.EucJpHeld.{lane_pair}
use Rattle.legacy_japanese.proofs.euc_jp.decoder.EucJpLaneCodec.index.Goals as goal

pub returns-clause-pairs : goal.returns-clause-pairs
returns-clause-pairs c = lane_pair
