use Rattle.legacy_chinese.proofs.Big5Places.{big5_pairs}
use Rattle.legacy_chinese.proofs.big5.decoder.Big5LaneCodec.index.Goals as goal

pub returns-clause-pairs : goal.returns-clause-pairs
returns-clause-pairs c = big5_pairs
