use Rattle.std.proofs.Common.{◌≡◌, ◌+◌, ◌*◌, ◌-◌, ◌≤◌, ◌++◌, length, take, drop}
use Rattle.legacy_text.specs.Texts.{unit_scalars}
use Rattle.legacy_streams.proofs.FourDigitLines.{scalar_lines}
use Rattle.legacy_streams.proofs.lines.put_four_digit_lines.Given as goal

abbrev pub invariant-lines : goal.invariant-lines
invariant-lines l = record {
  within : l.count ≤ length l.units;
  text : take (l.at + l.count * 7) l.bytes ≡ take l.at l.fn.bytes ++ scalar_lines (take l.count l.units);
  scalars : unit_scalars l.units ≡ take l.count l.units ++ unit_scalars (drop l.count l.units);
}

abbrev pub decreases-lines : goal.decreases-lines
decreases-lines l = length l.units - l.count
