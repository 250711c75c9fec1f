use Rattle.std.proofs.Common.{◌≡◌, ℕ, ◌<◌, ◌≤◌, ◌-◌, length, slice_index}
use Rattle.legacy_tables.proofs.tables.unpacking.write.Given as goal

-- the entries up to here are written, and the others are 0
abbrev pub invariant-loop-pointer : goal.invariant-loop-pointer
invariant-loop-pointer g l = record {
  within : l.pointer ≤ length (g.N.Numbers.numbers l.index);
  written : (k : ℕ) → k < l.pointer → slice_index (g.E.Entry.numbers l.entries) k ≡ slice_index (g.N.Numbers.numbers l.index) k;
  none : (k : ℕ) → l.pointer ≤ k → slice_index (g.E.Entry.numbers l.entries) k ≡ 0;
  at : g.N.Numbers.is_at l.index l.place l.pointer;
}

abbrev pub decreases-loop-pointer : goal.decreases-loop-pointer
decreases-loop-pointer g l = length (g.N.Numbers.numbers l.index) - l.pointer
