use Rattle.std.proofs.Common.{◌≡◌, ℕ, ◌-◌, ◌<◌, ◌≤◌, length, get_or}
use Rattle.legacy_single_byte.specs.ByteEntries.{IsByteEntry}
use Rattle.legacy_single_byte.proofs.single_byte.scalars.ByteScalars.units.Given as goal

-- the units of the first bytes are their entries
abbrev pub invariant-loop-at : goal.invariant-loop-at
invariant-loop-at l = record {
  within : l.at ≤ 8;
  count : length l.units ≡ 8;
  same : (k : ℕ) → k < l.at → IsByteEntry l.self.table.now.entries (get_or l.src k 0) (get_or l.units k 0);
}

abbrev pub decreases-loop-at : goal.decreases-loop-at
decreases-loop-at l = 8 - l.at
