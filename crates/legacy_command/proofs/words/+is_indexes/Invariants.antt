use Rattle.std.proofs.Common.{length}
use Rattle.legacy_command.proofs.words.+is_indexes.Given as goal

abbrev pub decreases-is_indexes : goal.decreases-is_indexes
decreases-is_indexes l = length l.words.now
