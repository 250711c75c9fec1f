use Rattle.std.proofs.Common.{length}
use Rattle.legacy_encodings.proofs.registry.Coders.+were_read_to_encode.Given as goal

abbrev pub decreases-were_read_to_encode : goal.decreases-were_read_to_encode
decreases-were_read_to_encode l = length l.indexes.now
