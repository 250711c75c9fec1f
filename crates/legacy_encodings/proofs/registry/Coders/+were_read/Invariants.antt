use Rattle.std.proofs.Common.{length}
use Rattle.legacy_encodings.proofs.registry.Coders.+were_read.Given as goal

abbrev pub decreases-were_read : goal.decreases-were_read
decreases-were_read l = length l.indexes.now
