use Rattle.std.proofs.Common.{◌≢◌, ◌-◌, ℕ, ◌<◌, ◌≤◌, slice_index}
use Rattle.legacy_tables.proofs.tables.pointers.first_between.Given as goal

-- no entry before the pointer is the searched one
abbrev pub invariant-loop-pointer : goal.invariant-loop-pointer
invariant-loop-pointer g l = record {
  from : l.start ≤ l.pointer;
  none : (k : ℕ) → l.start ≤ k → k < l.pointer → slice_index (g.E.Entry.numbers l.index) k ≢ l.entry;
}

abbrev pub decreases-loop-pointer : goal.decreases-loop-pointer
decreases-loop-pointer g l = l.end - l.pointer
