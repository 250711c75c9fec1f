use Rattle.{std.proofs.Common.{◌≡◌, ℕ, ◌-◌, ◌<◌, ◌≤◌, length, get_or}, legacy_miscellaneous.specs.UserDefinedMachine.unit_of_byte}
use Rattle.legacy_miscellaneous.proofs.user_defined.blocks.units_of.Given as goal

-- the units of the first bytes are theirs
abbrev pub invariant-loop-at : goal.invariant-loop-at
invariant-loop-at l = record {
  within : l.at ≤ 8;
  count : length l.units ≡ 8;
  same : (k : ℕ) → k < l.at → get_or l.units k 0 ≡ unit_of_byte (get_or l.src k 0);
}

abbrev pub decreases-loop-at : goal.decreases-loop-at
decreases-loop-at l = 8 - l.at
