use Rattle.std.proofs.Common.{◌≡◌, ◌+◌, ◌*◌, ◌-◌, ◌≤◌, ◌++◌}
use Rattle.legacy_streams.specs.{Lines.{event_lines, malformed_events}, LineBuffers.{line_bytes, line_room}}
use Rattle.legacy_streams.proofs.lines.LineBuffer.push_malformed_bytes.Given as goal

abbrev pub invariant-hundreds : goal.invariant-hundreds
invariant-hundreds l = record {
  within : l.done ≤ l.count;
  room : line_room l.fn.self ≤ line_room l.self + l.done * 46;
  text : line_bytes l.self ≡ line_bytes l.fn.self ++ event_lines (malformed_events l.place l.done);
}

abbrev pub decreases-hundreds : goal.decreases-hundreds
decreases-hundreds l = l.count - l.done
