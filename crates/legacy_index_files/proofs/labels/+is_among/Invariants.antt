use Rattle.std.proofs.Common.{length}
use Rattle.legacy_index_files.proofs.labels.+is_among.Given as goal

abbrev pub decreases-is_among : goal.decreases-is_among
decreases-is_among l = length l.labels.now
