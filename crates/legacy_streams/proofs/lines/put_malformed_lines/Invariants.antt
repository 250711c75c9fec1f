use Rattle.std.proofs.Common.{◌≡◌, ◌+◌, ◌*◌, ◌-◌, ◌≤◌, ◌++◌, take}
use Rattle.legacy_streams.specs.Lines.{event_lines, malformed_events}
use Rattle.legacy_streams.proofs.lines.put_malformed_lines.Given as goal

abbrev pub invariant-lines : goal.invariant-lines
invariant-lines l = record {
  within : l.done ≤ l.count;
  fits : l.end ≤ l.start + l.done * 46;
  text : take l.end l.bytes ≡ take l.start l.fn.bytes ++ event_lines (malformed_events (l.hundreds.number * 100 + l.rest) l.done);
}

abbrev pub decreases-lines : goal.decreases-lines
decreases-lines l = l.count - l.done
