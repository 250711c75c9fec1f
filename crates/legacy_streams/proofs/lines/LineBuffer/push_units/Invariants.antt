use Rattle.std.proofs.Common.{◌≡◌, ◌+◌, ◌*◌, ◌-◌, ◌≤◌, ◌++◌, length, drop}
use Rattle.legacy_text.specs.Texts.{unit_scalars}
use Rattle.legacy_streams.specs.LineBuffers.{line_bytes, line_room}
use Rattle.legacy_streams.proofs.FourDigitLines.{scalar_lines}
use Rattle.legacy_streams.proofs.lines.LineBuffer.push_units.Given as goal

abbrev pub invariant-surrogates : goal.invariant-surrogates
invariant-surrogates l = record {
  within : l.place ≤ length l.units;
  text : line_bytes l.self ++ scalar_lines (unit_scalars (drop l.place l.units)) ≡ line_bytes l.fn.self ++ scalar_lines (unit_scalars l.units);
  room : line_room l.fn.self ≤ line_room l.self + l.place * 9;
}

abbrev pub decreases-surrogates : goal.decreases-surrogates
decreases-surrogates l = length l.units - l.place
