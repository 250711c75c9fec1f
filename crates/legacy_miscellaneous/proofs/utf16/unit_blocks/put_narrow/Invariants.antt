use Rattle.std.{proofs.Common.{◌≡◌, ◌+◌, ◌-◌, ◌<◌, ◌≤◌, ℕ, length}, specs.Prelude.slice_index}
use Rattle.legacy_miscellaneous.specs.Utf16Decoder.{KeepsAscii}
use Rattle.legacy_miscellaneous.proofs.utf16.unit_blocks.put_narrow.Given as goal

-- the first units are stored, and what is before them is unchanged
abbrev pub invariant-loop-unit : goal.invariant-loop-unit
invariant-loop-unit l = record {
  within : l.unit ≤ 16;
  long : length l.block ≡ length l.fn.block;
  before : (k : ℕ) → k < l.at → slice_index l.block k ≡ slice_index l.fn.block k;
  narrow : (k : ℕ) → k < l.unit → KeepsAscii (slice_index l.units k) (slice_index l.block (l.at + k));
}

abbrev pub decreases-loop-unit : goal.decreases-loop-unit
decreases-loop-unit l = 16 - l.unit
