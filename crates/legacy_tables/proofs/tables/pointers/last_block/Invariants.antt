use Rattle.std.proofs.Common.{◌≢◌, ◌*◌, ℕ, ◌<◌, ◌≤◌, length, slice_index}
use Rattle.legacy_tables.proofs.tables.pointers.last_block.Given as goal

-- no later entry is the searched one, and there are entries for the blocks left
abbrev pub invariant-loop-blocks : goal.invariant-loop-blocks
invariant-loop-blocks g l = record {
  within : l.past ≤ length (g.E.Entry.numbers l.index);
  room : 32 * l.blocks ≤ l.past;
  none : (k : ℕ) → l.past ≤ k → k < length (g.E.Entry.numbers l.index) → slice_index (g.E.Entry.numbers l.index) k ≢ l.entry;
}

abbrev pub decreases-loop-blocks : goal.decreases-loop-blocks
decreases-loop-blocks g l = l.blocks
