use Rattle.std.proofs.Common.{length}
use Rattle.legacy_command.proofs.given_indexes.+read_files.Given as goal

abbrev pub decreases-read_files : goal.decreases-read_files
decreases-read_files l = length l.words.now
