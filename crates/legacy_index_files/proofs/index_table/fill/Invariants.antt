use Rattle.std.proofs.Common.{◌≡◌, ℕ, ◌<◌, ◌≤◌, length, get_or}
use Rattle.std.specs.Option.{unwrap_or}
use Rattle.legacy_index_files.specs.{IndexLine.lines, IndexTable.{file_entries, table_length, last_value}}
use Rattle.legacy_index_files.proofs.index_table.fill.Given as goal

abbrev pub invariant-loop-rest : goal.invariant-loop-rest
invariant-loop-rest g l = record {
  room : table_length (file_entries l.name (lines l.rest)) ≤ length l.values;
  at_each : (p : ℕ) → p < length l.values → unwrap_or (last_value (file_entries l.name (lines l.rest)) p) (get_or (g.E.Entry.numbers l.values) p 0)
      ≡ unwrap_or (last_value (file_entries l.name (lines l.fn.text)) p) (get_or (g.E.Entry.numbers l.initial.values) p 0);
}

abbrev pub decreases-loop-rest : goal.decreases-loop-rest
decreases-loop-rest g l = length l.rest
