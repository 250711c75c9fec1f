use Rattle.std.proofs.Common.{◌≡◌, ◌+◌, ◌*◌, ◌≤◌, ◌++◌, take}
use Rattle.legacy_text.specs.EncodingForm.{all_code_units, total_unit_count}
use Rattle.legacy_text.proofs.destination.Destination.put_first.Given as goal

-- the code units passed are written
abbrev pub invariant-loop-at : goal.invariant-loop-at
invariant-loop-at g l = record {
  contents : g.Self.Destination.contents l.self ≡ g.Self.Destination.contents l.fn.self ++ all_code_units g.Self.Destination.form (take l.at l.fn.units);
  room : g.Self.Destination.room l.self + total_unit_count g.Self.Destination.form (take l.at l.fn.units) ≡ g.Self.Destination.room l.fn.self;
  few : g.Self.Destination.room l.fn.self ≤ g.Self.Destination.room l.self + 3 * l.at;
  loan : g.Self.Destination.loan l.self ≡ g.Self.Destination.loan l.fn.self;
}
