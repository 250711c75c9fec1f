use Rattle.std.proofs.Common.{◌≡◌, ◌+◌, ◌≤◌, length, max}
use Rattle.legacy_index_files.specs.{IndexLine.lines, IndexTable.{malformed_line, file_entries, table_length, greatest_length}}
use Rattle.legacy_index_files.proofs.index_table.check_lines.Given as goal

abbrev pub invariant-loop-rest : goal.invariant-loop-rest
invariant-loop-rest l = record {
  counted : l.number + length l.rest ≤ length l.fn.text;
  bound : l.length ≤ greatest_length l.name;
  malformed : malformed_line l.name (l.number + 1) (lines l.rest) ≡ malformed_line l.name 1 (lines l.fn.text);
  reach : max l.length (table_length (file_entries l.name (lines l.rest))) ≡ table_length (file_entries l.name (lines l.fn.text));
}

abbrev pub decreases-loop-rest : goal.decreases-loop-rest
decreases-loop-rest l = length l.rest
