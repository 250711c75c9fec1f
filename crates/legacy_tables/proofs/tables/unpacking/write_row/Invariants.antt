use Rattle.std.proofs.Common.{◌≡◌, ◌+◌, ◌≤◌, ◌<◌, ℕ, slice_index}
use Rattle.legacy_tables.proofs.tables.unpacking.write_row.Given as goal

-- the row is written up to here, and nothing else
abbrev pub invariant-loop-at : goal.invariant-loop-at
invariant-loop-at g l = record {
  row : (k : ℕ) → k < l.at → slice_index (g.E.Entry.numbers l.entries) (l.fn.row.pointer + k) ≡ l.fn.row.scalar + k;
  before : (k : ℕ) → k < l.fn.row.pointer → slice_index (g.E.Entry.numbers l.entries) k ≡ slice_index (g.E.Entry.numbers l.fn.entries) k;
  after : (k : ℕ) → l.fn.row.pointer + l.fn.row.count ≤ k → slice_index (g.E.Entry.numbers l.entries) k ≡ slice_index (g.E.Entry.numbers l.fn.entries) k;
}
