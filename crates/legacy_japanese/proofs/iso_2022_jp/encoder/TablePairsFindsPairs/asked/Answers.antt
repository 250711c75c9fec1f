use Rattle.std.proofs.Common.{arith}
use Rattle.legacy_japanese.proofs.iso_2022_jp.encoder.TablePairsFindsPairs.asked.Goals as goal

pub returns-in-None : goal.returns-in-None
returns-in-None c = grind (arith, c.asked_past_pairs.ensures c.args.self.now.tables.now.flat, c.pair_of.ensures.none)
