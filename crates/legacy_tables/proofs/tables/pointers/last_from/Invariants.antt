use Rattle.std.proofs.Common.{◌≢◌, ℕ, ◌<◌, ◌≤◌, length, slice_index}
use Rattle.legacy_tables.proofs.tables.pointers.last_from.Given as goal

-- no later entry is the searched one
abbrev pub invariant-loop-past : goal.invariant-loop-past
invariant-loop-past g l = record {
  within : l.past ≤ length (g.E.Entry.numbers l.index);
  none : (k : ℕ) → l.past ≤ k → k < length (g.E.Entry.numbers l.index) → slice_index (g.E.Entry.numbers l.index) k ≢ l.entry;
}

abbrev pub decreases-loop-past : goal.decreases-loop-past
decreases-loop-past g l = l.past
