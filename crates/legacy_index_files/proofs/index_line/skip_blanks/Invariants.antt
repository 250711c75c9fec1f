use Rattle.std.proofs.Common.{◌≡◌, length}
use Rattle.legacy_index_files.specs.IndexLine.{past_blanks}
use Rattle.legacy_index_files.proofs.index_line.skip_blanks.Given as goal

abbrev pub invariant-loop-first : goal.invariant-loop-first
invariant-loop-first l = past_blanks l.rest ≡ past_blanks l.fn.bytes

abbrev pub decreases-loop-first : goal.decreases-loop-first
decreases-loop-first l = length l.rest
