use Rattle.legacy_korean.proofs.EucKrPlaces.{euc_kr_pairs}
use Rattle.legacy_korean.proofs.euc_kr.decoder.EucKrLaneCodec.index.Goals as goal

pub returns-clause-pairs : goal.returns-clause-pairs
returns-clause-pairs c = euc_kr_pairs
