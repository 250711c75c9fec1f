use Rattle.std.proofs.Common.{rules}
use Rattle.legacy_japanese.proofs.euc_jp.decoder.read_next.Goals as goal

pub returns-in-None-pair_scalar : goal.returns-in-None-pair_scalar
returns-in-None-pair_scalar c = search rules
