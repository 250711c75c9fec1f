use Rattle.std.proofs.Common.{length}
use Rattle.legacy_command.proofs.words.+is_index_again.Given as goal

abbrev pub decreases-is_index_again : goal.decreases-is_index_again
decreases-is_index_again l = length l.words.now
