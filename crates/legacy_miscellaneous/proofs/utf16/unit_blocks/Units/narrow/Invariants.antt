use Rattle.{std.proofs.Common.{◌≡◌, ◌-◌, ◌%◌, ◌≤◌, length}, legacy_miscellaneous.specs.Utf16Decoder.HasAsciiUnits}
use Rattle.legacy_miscellaneous.proofs.utf16.unit_blocks.Units.narrow.Given as goal

-- the units before `at` are in the block
abbrev pub invariant-loop-at : goal.invariant-loop-at
invariant-loop-at l = record {
  within : l.at ≤ length l.block;
  sixteens : l.at % 16 ≡ 0;
  long : length l.block ≡ length l.fn.block;
  narrow : HasAsciiUnits l.self.big_endian l.src l.block l.at;
}

abbrev pub decreases-loop-at : goal.decreases-loop-at
decreases-loop-at l = length l.block - l.at
