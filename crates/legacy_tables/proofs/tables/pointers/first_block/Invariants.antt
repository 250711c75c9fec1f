use Rattle.std.proofs.Common.{◌≢◌, ◌+◌, ◌*◌, ℕ, ◌<◌, ◌≤◌, slice_index}
use Rattle.legacy_tables.proofs.tables.pointers.first_block.Given as goal

-- no entry before the pointer is the searched one, and there is room for the blocks left
abbrev pub invariant-loop-blocks : goal.invariant-loop-blocks
invariant-loop-blocks g l = record {
  from : l.start ≤ l.pointer;
  room : 0 < l.blocks → l.pointer + 32 * l.blocks ≤ l.end;
  none : (k : ℕ) → l.start ≤ k → k < l.pointer → slice_index (g.E.Entry.numbers l.index) k ≢ l.entry;
}

abbrev pub decreases-loop-blocks : goal.decreases-loop-blocks
decreases-loop-blocks g l = l.blocks
