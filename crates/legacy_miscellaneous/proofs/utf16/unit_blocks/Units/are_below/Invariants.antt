use Rattle.{std.proofs.Common.{ℕ, ◌-◌, ◌*◌, ◌≤◌}, legacy_miscellaneous.specs.Utf16Decoder.{AreBelow, AreUnitsBelow}}
use Rattle.legacy_miscellaneous.proofs.utf16.unit_blocks.Units.are_below.Given as goal

-- no unit of the groups that were read is greater than that of its lane
abbrev pub invariant-loop-group : goal.invariant-loop-group
invariant-loop-group l = record {
  within : l.group ≤ l.eights;
  below : (n : ℕ) → AreBelow n l.greatest → AreUnitsBelow l.self.big_endian l.src (8 * l.group) n;
}

abbrev pub decreases-loop-group : goal.decreases-loop-group
decreases-loop-group l = l.eights - l.group
