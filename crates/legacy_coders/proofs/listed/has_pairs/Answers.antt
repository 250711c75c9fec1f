use Rattle.std.proofs.Common.{rules}
use Rattle.legacy_coders.proofs.listed.has_pairs.Goals as goal

pub returns : goal.returns
returns c = search rules
