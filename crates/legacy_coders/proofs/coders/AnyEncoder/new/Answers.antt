use Rattle.std.proofs.Common.{rules}
use Rattle.legacy_coders.proofs.coders.AnyEncoder.new.Goals as goal

pub returns : goal.returns
returns c = search rules
