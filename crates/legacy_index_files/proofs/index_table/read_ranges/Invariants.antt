use Rattle.std.proofs.Common.{◌≡◌, ◌++◌, length}
use Rattle.legacy_index_files.specs.{declared.index_file.FileIndex.TheVariants.Ranges, IndexLine.lines, IndexTable.entries_of}
use Rattle.legacy_index_files.proofs.index_table.read_ranges.Given as goal

abbrev pub invariant-loop-rest : goal.invariant-loop-rest
invariant-loop-rest l = l.ranges.items ++ entries_of Ranges (lines l.rest) ≡ entries_of Ranges (lines l.fn.text)

abbrev pub decreases-loop-rest : goal.decreases-loop-rest
decreases-loop-rest l = length l.rest
