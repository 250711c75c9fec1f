use Rattle.legacy_japanese.proofs.ShiftJisPlaces.{lane_pair}
use Rattle.legacy_japanese.proofs.shift_jis.decoder.ShiftJisLaneCodec.index.Goals as goal

pub returns-clause-pairs : goal.returns-clause-pairs
returns-clause-pairs c = lane_pair
