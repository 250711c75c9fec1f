use Rattle.legacy_chinese.proofs.Gb18030Held.{lane_pair}
use Rattle.legacy_chinese.proofs.gb18030.four_byte_blocks.Gb18030LaneCodec.index.Goals as goal

pub returns-clause-pairs : goal.returns-clause-pairs
returns-clause-pairs c = lane_pair
