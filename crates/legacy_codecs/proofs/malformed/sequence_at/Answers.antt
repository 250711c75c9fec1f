use Rattle.std.proofs.Common.{rules}
use Rattle.legacy_codecs.proofs.malformed.sequence_at.Goals as goal

pub returns-clause-place : goal.returns-clause-place
returns-clause-place c = search rules
